use Rattle.std.proofs.Common.{rules, inl, inr, ◌≡◌, ◌<◌, ◌++◌, ◌∷◌, [], ◌∙◌, refl, sym, ap, subst, arith, length, List, true}
use Rattle.std.specs.Prelude.{IfSome}
use Rattle.std.proofs.lemmas.List.{length_push}
use Rattle.machine_step.specs.declared.machine.Machine.{Machine}
use Rattle.kernel_contexts.specs.Context.{state_of}
use Rattle.za_routines.specs.Places.{places_of}
use Rattle.za_routines.specs.declared.places.RoutinePlaces.{RoutinePlaces}
use Rattle.abi_checker.specs.Marks.{HasMark}
use Rattle.abi_checker.specs.Keeping.{IsKept}
use Rattle.abi_checker.specs.Watching.{AreNear, IsMarkedPast}
use Rattle.abi_checker.specs.Near.{is_near}
use Rattle.abi_checker.specs.declared.open_call.OpenCall.{OpenCall}
use Rattle.abi_checker.proofs.Settled.{near_more}
use Rattle.abi_checker.proofs.watch.Watch.call.Goals as goal

pub returns-in_default-clause-after : goal.returns-in_default-clause-after
returns-in_default-clause-after c = (
  refl,
  inl (record {
    none = λ p h.
        c.in_default.ensures.none p h.place (subst (λ (m : Machine). HasMark m.pages.memory p) (sym c.machine.ensures) h.mark);
    calls = refl;
  }),
)

pub returns-clause-after : goal.returns-clause-after
returns-clause-after c =
    let call : OpenCall = c.in-Some-2.call in
    let s = state_of c.args.context.now in
    let items : c.push.new.self.items ≡ c.args.self.now.calls.items ++ call ∷ [] = search rules in
    let kept : IsKept call s = subst (λ o. IfSome o (λ x. IsKept x s)) c.in-Some-2.is c.in_ok-call.ensures.kept in
    let places : call.places ≡ c.in-Some.places =
    subst (λ o. IfSome o (λ (x : OpenCall). x.places ≡ c.in-Some.places)) c.in-Some-2.is c.in_ok-call.ensures.places in
    let here : IsMarkedPast (places_of c.in-Some.places) s c.args.past = record {
      place = c.in-Some.ensures.tail;
      mark = subst (λ (m : Machine). HasMark m.pages.memory (places_of c.in-Some.places)) c.machine.ensures c.in-Some.ensures.some;
    } in
    let long = ap (λ (l : List OpenCall). length l) items in
    let pushed = length_push c.args.self.now.calls.items call in (
      refl,
      inr (record {
        last = call;
        marked = subst (λ (p : RoutinePlaces). IsMarkedPast (places_of p) s c.args.past) (sym places) here;
        kept = kept;
        calls = items;
        few = omega (arith, long, pushed, c.requires.few, c.if-len-eq-OPEN_LIMIT.false, c.len.ensures);
      }),
    )

pub returns-clause-near : goal.returns-clause-near
returns-clause-near c =
    let call : OpenCall = c.in-Some-2.call in
    let items : c.push.new.self.items ≡ c.args.self.now.calls.items ++ call ∷ [] = search rules in
    let places : call.places ≡ c.in-Some.places =
    subst (λ o. IfSome o (λ (x : OpenCall). x.places ≡ c.in-Some.places)) c.in-Some-2.is c.in_ok-call.ensures.places in
    let here : is_near c.add.new.self call.places.tail ≡ true =
    subst (λ (p : RoutinePlaces). is_near c.add.new.self p.tail ≡ true) (sym places) c.add.ensures.here in
    subst (λ (l : List OpenCall). AreNear c.add.new.self l) (sym items)
    (near_more c.args.self.now.near c.add.new.self c.args.self.now.calls.items call here c.add.ensures.others c.requires.near)
