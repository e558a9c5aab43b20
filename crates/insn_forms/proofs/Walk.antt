-- The steps of the way through the tree.
use Rattle.std.proofs.Common.{◌≡◌, ℕ, zero, suc, ◌+◌, ◌-◌, ◌<◌, List, Option, Some, None, slice_get, refl, sym, ap, ◌∙◌, arith}
use Rattle.insn_forms.specs.declared.tree.Fork.{Fork}
use Rattle.insn_forms.specs.declared.tree.Node.{Node}
use Rattle.insn_forms.specs.declared.tree.Node.TheVariants as node
use Rattle.insn_forms.specs.Tree.{step, walk, way_on}

walk-suc : (m : ℕ) (nodes : List Node) (at word : ℕ)
    → walk (suc m) nodes at word ≡ step (λ next. walk m nodes next word) (slice_get nodes at) word
unfolding walk
walk-suc m nodes at word = refl

pub walk-zero : (nodes : List Node) (at word : ℕ) → walk zero nodes at word ≡ None
unfolding walk
walk-zero nodes at word = refl

-- what is left of the way, after i steps of n, by what stands at the place
pub walk-next : (n i : ℕ) (nodes : List Node) (at word : ℕ) (found : Option Node) → i < n → found ≡ slice_get nodes at
    → walk (n - i) nodes at word ≡ step (λ next. walk (n - (i + 1)) nodes next word) found word
walk-next n i nodes at word found lt f =
    let e : n - i ≡ suc (n - (i + 1)) = omega arith in
    ap (λ m. walk m nodes at word) e ∙ walk-suc (n - (i + 1)) nodes at word
    ∙ ap (λ o. step (λ next. walk (n - (i + 1)) nodes next word) o word) (sym f)

pub step-fork : (on : ℕ → Option ℕ) (here : Node) (fork : Fork) (word : ℕ) → here ≡ node.Fork fork
    → step on (Some here) word ≡ on (way_on fork word)
unfolding step
step-fork on here fork word e = ap (λ x. step on (Some x) word) e

pub step-leaf : (on : ℕ → Option ℕ) (here : Node) (number word : ℕ) → here ≡ node.Leaf number → step on (Some here) word ≡ Some number
unfolding step
step-leaf on here number word e = ap (λ x. step on (Some x) word) e

pub step-none : (on : ℕ → Option ℕ) (word : ℕ) → step on None word ≡ None
unfolding step
step-none on word = refl
