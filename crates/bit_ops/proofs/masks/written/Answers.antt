use Rattle.std.proofs.Common.{◌≡◌, ◌∙◌, ℕ, ◌<◌, ◌≤◌, sym, arith, inl, inr, Bool}
use Rattle.bit_ops.specs.Masks.{size_of}
use Rattle.bit_ops.proofs.Fields.{fields-wide, fields-narrow, size-known, triple}
use Rattle.bit_ops.proofs.masks.written.Goals.{then-ones-eq0-via-then-ones-eq0, then-ones-eq0-via-else-ones-eq0+then-ones-size}
use Rattle.bit_ops.proofs.masks.written.Goals.{then-ones-eq0-via-else-ones-eq0+else-ones-size+then-first-size}
use Rattle.bit_ops.proofs.masks.written.Goals.{then-ones-eq0-via-else-ones-eq0+else-ones-size+else-first-size+then-size-gt64}
use Rattle.bit_ops.proofs.masks.written.Goals as goal

not_long : (n : Bool) (imms size : ℕ) → size ≡ size_of n imms → size ≤ 64
not_long n imms size e = elim (size-known n imms) [ inl all ↦ omega arith | inr half ↦ omega arith ]

not_between : (n : Bool) (imms size : ℕ) → size ≡ size_of n imms → (size ≡ 64 → ⊥) → 32 < size → ⊥
not_between n imms size e other lt = elim (size-known n imms) [ inl all ↦ other (e ∙ all) | inr half ↦ omega arith ]

pub returns-then-ones-eq0-clause-only : goal.returns-then-ones-eq0-clause-only
returns-then-ones-eq0-clause-only c n imms immr lt turn size ones room first e =
    let short = not_long n imms c.args.size size in
    absurd (elim c.then-ones-eq0.branch [
      | then-ones-eq0-via-then-ones-eq0 w ↦ omega arith
      | then-ones-eq0-via-else-ones-eq0+then-ones-size w ↦ omega arith
      | then-ones-eq0-via-else-ones-eq0+else-ones-size+then-first-size w ↦ omega arith
      | then-ones-eq0-via-else-ones-eq0+else-ones-size+else-first-size+then-size-gt64 w ↦ omega arith
    ])

pub returns-then-size-eq64-clause-only : goal.returns-then-size-eq64-clause-only
returns-then-size-eq64-clause-only c n imms immr lt turn size ones room first e =
    let fields = fields-wide n imms lt (sym size ∙ c.if-size-eq64.true) in
    let low = fields.1 in
    triple _ n _ _ imms immr (sym fields.0) (omega arith) (sym e)

pub returns-then-size-le32-clause-only : goal.returns-then-size-le32-clause-only
returns-then-size-le32-clause-only c n imms immr lt turn size ones room first e =
    let fields = fields-narrow n imms lt (omega arith) (omega arith) in
    let low = fields.1 in
    triple _ n _ _ imms immr (sym fields.0) (omega arith) (sym e)

pub returns-else-size-le32-clause-only : goal.returns-else-size-le32-clause-only
returns-else-size-le32-clause-only c n imms immr lt turn size ones room first e =
    absurd (not_between n imms c.args.size size c.if-size-eq64.false (omega arith))
