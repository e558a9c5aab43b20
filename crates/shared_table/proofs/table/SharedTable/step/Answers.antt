use Rattle.std.proofs.Common.{rules, ◌≡◌, ℕ, ap, ◌∙◌, refl, Bool, true, false, cond, eqb}
use prog.Atomic.{either}
use Rattle.shared_region.specs.WordRule.{new_word}
use Rattle.shared_table.proofs.Operations.{does_at, stores_at}
use Rattle.shared_table.proofs.Names.{same_table}
use Rattle.shared_table.proofs.table.SharedTable.step.Goals as goal

cond_either : (b : Bool) (x y : ℕ) → cond b x y ≡ either b x y
cond_either true x y = refl
cond_either false x y = refl

pub load-requires : goal.load-requires
load-requires g c = let op = c.args.op in (
  same_table _ _ c.requires.name,
  search rules,
  does_at _ _ _ c.args.thread op _ _ _ c.args.seat.now.bare c.requires.number c.requires.asks c.requires.place
      c.cell-at.ensures.value (λ old. ap (λ k. new_word k op.a op.b old) c.in-Load.is),
)

pub swap-requires : goal.swap-requires
swap-requires g c = let op = c.args.op in (
  same_table _ _ c.requires.name,
  search rules,
  does_at _ _ _ c.args.thread op _ _ _ c.args.seat.now.bare c.requires.number c.requires.asks c.requires.place
      c.cell-at.ensures.value (λ old. ap (λ k. new_word k op.a op.b old) c.in-Swap.is),
)

pub fetch_add-requires : goal.fetch_add-requires
fetch_add-requires g c = let op = c.args.op in (
  same_table _ _ c.requires.name,
  search rules,
  does_at _ _ _ c.args.thread op _ _ _ c.args.seat.now.bare c.requires.number c.requires.asks c.requires.place
      c.cell-at.ensures.value (λ old. ap (λ k. new_word k op.a op.b old) c.in-Add.is),
)

pub fetch_and-requires : goal.fetch_and-requires
fetch_and-requires g c = let op = c.args.op in (
  same_table _ _ c.requires.name,
  search rules,
  does_at _ _ _ c.args.thread op _ _ _ c.args.seat.now.bare c.requires.number c.requires.asks c.requires.place
      c.cell-at.ensures.value (λ old. ap (λ k. new_word k op.a op.b old) c.in-Clear.is),
)

pub fetch_xor-requires : goal.fetch_xor-requires
fetch_xor-requires g c = let op = c.args.op in (
  same_table _ _ c.requires.name,
  search rules,
  does_at _ _ _ c.args.thread op _ _ _ c.args.seat.now.bare c.requires.number c.requires.asks c.requires.place
      c.cell-at.ensures.value (λ old. ap (λ k. new_word k op.a op.b old) c.in-Eor.is),
)

pub fetch_or-requires : goal.fetch_or-requires
fetch_or-requires g c = let op = c.args.op in (
  same_table _ _ c.requires.name,
  search rules,
  does_at _ _ _ c.args.thread op _ _ _ c.args.seat.now.bare c.requires.number c.requires.asks c.requires.place
      c.cell-at.ensures.value (λ old. ap (λ k. new_word k op.a op.b old) c.in-Set.is),
)

pub fetch_max-requires : goal.fetch_max-requires
fetch_max-requires g c = let op = c.args.op in (
  same_table _ _ c.requires.name,
  search rules,
  does_at _ _ _ c.args.thread op _ _ _ c.args.seat.now.bare c.requires.number c.requires.asks c.requires.place
      c.cell-at.ensures.value (λ old. ap (λ k. new_word k op.a op.b old) c.in-Umax.is),
)

pub fetch_min-requires : goal.fetch_min-requires
fetch_min-requires g c = let op = c.args.op in (
  same_table _ _ c.requires.name,
  search rules,
  does_at _ _ _ c.args.thread op _ _ _ c.args.seat.now.bare c.requires.number c.requires.asks c.requires.place
      c.cell-at.ensures.value (λ old. ap (λ k. new_word k op.a op.b old) c.in-Umin.is),
)

pub compare_exchange-requires : goal.compare_exchange-requires
compare_exchange-requires g c = let op = c.args.op in (
  same_table _ _ c.requires.name,
  search rules,
  does_at _ _ _ c.args.thread op _ _ _ c.args.seat.now.bare c.requires.number c.requires.asks c.requires.place
      c.cell-at.ensures.value (λ old. ap (λ k. new_word k op.a op.b old) c.in-Cas.is ∙ cond_either (eqb old op.a) op.b old),
)

pub fetch_or-requires-in-Post : goal.fetch_or-requires-in-Post
fetch_or-requires-in-Post g c = let op = c.args.op in (
  same_table _ _ c.requires.name,
  search rules,
  does_at _ _ _ c.args.thread op _ _ _ c.args.seat.now.bare c.requires.number c.requires.asks c.requires.place
      c.cell-at.ensures.value (λ old. ap (λ k. new_word k op.a op.b old) c.in-Post.is),
)

pub swap-requires-in-Poll : goal.swap-requires-in-Poll
swap-requires-in-Poll g c = let op = c.args.op in (
  same_table _ _ c.requires.name,
  search rules,
  does_at _ _ _ c.args.thread op _ _ _ c.args.seat.now.bare c.requires.number c.requires.asks c.requires.place
      c.cell-at.ensures.value (λ old. ap (λ k. new_word k op.a op.b old) c.in-Poll.is),
)

pub store-requires : goal.store-requires
store-requires g c = let op = c.args.op in (
  same_table _ _ c.requires.name,
  search rules,
  stores_at _ _ _ c.args.thread op _ _ _ c.args.seat.now.bare c.requires.number c.requires.asks c.requires.place
      c.cell-at.ensures.value c.in-Store.is refl,
)
