use Rattle.std.proofs.Common.{◌≡◌, ◌∙◌, ℕ, length, take, ap, sym, arith}
use Rattle.std.proofs.Math.Seq.{take-length}
use Rattle.std.proofs.lemmas.Simd.{put_chunk_whole}
use Rattle.std.specs.Simd.Lanes.{chunk}
use Rattle.sve_access.proofs.loads.copy_bytes.Goals as goal

pub returns-then-z-eq16 : goal.returns-then-z-eq16
returns-then-z-eq16 c =
    let bytes = c.args.bytes.now in
    let long : length bytes ≡ 16 = omega arith in
    let read : chunk 0 16 bytes ≡ bytes = ap (λ (k : ℕ). take k bytes) (sym long) ∙ take-length bytes in
    put_chunk_whole c.args.z.now (chunk 0 16 bytes) (sym c.requires ∙ ap length (sym read)) ∙ read
