use Rattle.std.proofs.Common.{◌≡◌, ◌<◌, ◌+◌, ℕ, suc, Bool, cond, List, [], ◌∷◌, length, get_or, drop, drop-cons, add-one, Some, None, refl}
use Rattle.std.proofs.Common.{sym, ap, ◌∙◌, arith}
use Rattle.std.specs.List.{find}
use Rattle.insn_forms.specs.Tables.{has_bits}
use Rattle.insn_forms.proofs.line.line_with.Goals as goal

-- a step over a list: the first of the items that are left decides where it passes the test
step : {X : Type 0} (test : X → Bool) (xs : List X) (i : ℕ) (x : X) → i < length xs → x ≡ get_or xs i x
    → find test (drop i xs) ≡ cond (test x) (Some x) (find test (drop (i + 1) xs))
step test xs i x lt is = rw (add-one, drop-cons xs i x lt) (ap (λ y. cond (test y) (Some y) (find test (drop (suc i) xs))) (sym is))

none_left : {X : Type 0} (test : X → Bool) (xs : List X) → find test (drop (length xs) xs) ≡ None
none_left test [] = refl
none_left test (x ∷ xs) = none_left test xs

pub loop-line-init : goal.loop-line-init
loop-line-init g c = refl

pub returns-then-has_bits : goal.returns-then-has_bits
returns-then-has_bits g c =
    let rest = find (has_bits c.args.mask c.args.value) (drop (c.loop-line.line-index + 1) c.args.lines.now) in
    ap (λ b. cond b (Some c.line-item.result) rest) (sym c.if-has_bits.true ∙ c.has_bits.ensures)
    ∙ sym (step (has_bits c.args.mask c.args.value) c.args.lines.now c.loop-line.line-index c.line-item.result c.loop-line-test.true
    c.line-item.is)
    ∙ c.loop-line.invariant

pub loop-line-preserved : goal.loop-line-preserved
loop-line-preserved g c =
    let rest = find (has_bits c.args.mask c.args.value) (drop (c.loop-line.line-index + 1) c.args.lines.now) in
    ap (λ b. cond b (Some c.line-item.result) rest) (sym c.if-has_bits.false ∙ c.has_bits.ensures)
    ∙ sym (step (has_bits c.args.mask c.args.value) c.args.lines.now c.loop-line.line-index c.line-item.result c.loop-line-test.true
    c.line-item.is)
    ∙ c.loop-line.invariant

pub returns : goal.returns
returns g c =
    let e : c.loop-line.line-index ≡ length c.args.lines.now = omega arith in
    sym (none_left (has_bits c.args.mask c.args.value) c.args.lines.now)
    ∙ ap (λ k. find (has_bits c.args.mask c.args.value) (drop k c.args.lines.now)) (sym e) ∙ c.loop-line.invariant
