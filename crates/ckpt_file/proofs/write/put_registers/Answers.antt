use Rattle.std.proofs.Common.{◌∷◌, []}
use Rattle.ckpt_fields.specs.Values.{doublewords}
use Rattle.ckpt_file.proofs.Puts.{put_more}
use Rattle.ckpt_file.proofs.write.put_registers.Goals as goal

pub returns : goal.returns
returns c =
    let s = c.args.scalars.now in
    put_more (doublewords (s.pc ∷ [])) (doublewords (s.sp ∷ s.x)) _ _ _ c.in_ok-put_doubleword.ensures
    (put_more (doublewords (s.sp ∷ [])) (doublewords s.x) _ _ _ c.in_ok-put_doubleword-2.ensures c.in_ok-put_doublewords.ensures)
