use Rattle.std.proofs.Common.{◌≡◌, ℕ, ◌*◌, ◌/◌, ◌≤◌, arith, ap, ap₂, ◌∙◌, sym, subst, length}
use Rattle.vector_elements.specs.declared.size.Size.{Size}
use Rattle.vector_elements.specs.declared.size.Size.TheVariants.{B, H, S, D}
use Rattle.vector_elements.specs.Elements.{element_of}
use Rattle.vector_elements.specs.Lanes.{lanes_in}
use Rattle.vector_elements.specs.Numbers.{bytes_in}
use Rattle.vector_elements.proofs.Lists.{begun, some_bytes, written, unread, finished}
use Rattle.vector_elements.proofs.Sixteen.{IsChangedTo, lanes_more}
use Rattle.sve_exec.proofs.lanes.each_sixteen.Goals as goal

pub loop-turn-init : goal.loop-turn-init
loop-turn-init g c =
    let size = c.args.size in
    let none : 0 ≡ lanes_in size * 0 = omega arith in
    subst (λ n. IsChangedTo (bytes_in size) (λ k a. g.O.Binary.gives c.args.op size a (element_of (bytes_in size) c.args.m.now k))
    c.args.d.now n c.args.d.now) none (begun _ _ _)

pub loop-turn-preserved : goal.loop-turn-preserved
loop-turn-preserved g c =
    lanes_more c.args.size (g.O.Binary.gives c.args.op c.args.size) c.args.m.now c.args.d.now c.loop-turn.d c.change_sixteen.new.d
    c.loop-turn.turn c.loop-turn.invariant c.change_sixteen.ensures

pub loop-i-init : goal.loop-i-init
loop-i-init g c =
    let size = c.args.size in
    let all : c.loop-turn.turn ≡ length c.args.d.now / 16 = omega arith in
    let start : lanes_in size * c.loop-turn.turn ≡ 16 / c.bytes.result * (length c.args.d.now / 16) =
    ap₂ (λ b t. 16 / b * t) (sym c.bytes.ensures) all in
    subst (λ n. IsChangedTo (bytes_in size) (λ k a. g.O.Binary.gives c.args.op size a (element_of (bytes_in size) c.args.m.now k))
    c.args.d.now n c.loop-turn.d) start c.loop-turn.invariant

pub loop-i-preserved : goal.loop-i-preserved
loop-i-preserved g c =
    let same = unread _ _ _ _ _ c.loop-i.invariant in
    c.set_element.ensures ∙ written _ _ _ _ _ _ c.loop-i.invariant (cc same)

start_within : (size : Size) (n : ℕ) → lanes_in size * (n / 16) ≤ n / bytes_in size
start_within B n = omega arith
start_within H n = omega arith
start_within S n = omega arith
start_within D n = omega arith

pub returns : goal.returns
returns g c =
    let n = length c.args.d.now in
    let start : 16 / c.bytes.result * (n / 16) ≤ n / c.bytes-2.result =
    subst (λ b. 16 / b * (n / 16) ≤ n / c.bytes-2.result) (sym c.bytes.ensures)
    (subst (λ b. lanes_in c.args.size * (n / 16) ≤ n / b) (sym c.bytes-2.ensures) (start_within c.args.size n)) in
    let same : length c.loop-turn.d / c.bytes-2.result ≡ n / c.bytes-2.result = ap (λ k. k / c.bytes-2.result) c.loop-turn.auto.d in
    let count : c.loop-i.i ≡ n / c.bytes-2.result =
    omega (arith, start, same, c.loop-i-test.false, c.loop-i.auto.i, c.loop-i.auto.i-end) in
    finished _ _ _ _ _ (some_bytes c.args.size) c.requires.whole (count ∙ ap (λ k. n / k) c.bytes-2.ensures) c.loop-i.invariant
