use Rattle.std.proofs.Common.{◌≡◌, length, rules, arith}
use Rattle.ckpt_file.proofs.Registers.{rows_read}
use Rattle.ckpt_file.proofs.read.registers_of.Goals as goal

pub returns : goal.returns
returns c =
    let long : length c.read_u64_into.new.dst ≡ 33 = omega (arith, c.read_u64_into.auto.dst) in
    rows_read 33 c.args.bytes.now c.read_u64_into.new.dst long c.requires (λ k. search (rules, c.type_inv.bytes k)) c.read_u64_into.ensures
