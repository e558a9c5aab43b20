-- What the debugger prints for a script is one text, and where memory is wanting a front of it.
use Rattle.std.proofs.Common.{◌≡◌, inl, inr, ℕ, ◌++◌, List, [], ◌∷◌, sym, ◌∙◌, ap, subst, arith}
use Rattle.std.proofs.Common.{append_assoc}
use Rattle.plain_lemmas.proofs.Options.{one_Ok}
use Rattle.plain_lemmas.proofs.Numbers.{cases_lt_eq_gt}
use Rattle.script_reader.specs.Script.{script_in}
use Rattle.script_reader.specs.declared.command.DebugCommand.{DebugCommand}
use Rattle.script_reader.specs.declared.command.DebugCommand.TheVariants.{Step, Back, Goto, Break}
use Rattle.sme_debugger.specs.Answers.{Answers, HasNone, IsNext, shown_text}
use Rattle.sme_debugger.specs.Recording.{Recording}
use Rattle.sme_debugger.proofs.Recorded.{one_state}
use Rattle.command_lines.specs.Texts.{HasFront}
use Rattle.smemu.specs.Debug.{Leads, recorded, IsDebugOf, IsDebugFrontOf}
use Rattle.smemu.specs.Replay.{IsBlockIn}
use Rattle.smemu_laws.proofs.EachAnswer.{answers_of}
use Rattle.smemu_laws.proofs.OneAnswer.{one_block}

-- ---- the answer of a command

-- the next count with a PC is one
one_next : (r : Recording) (from address p q : ℕ) → IsNext r from address p → IsNext r from address q → p ≡ q
one_next r from address p q h g = elim (cases_lt_eq_gt p q) [
  | inl less ↦ absurd (g.first p h.state h.above less h.shown h.there)
  | inr (inl same) ↦ same
  | inr (inr more) ↦ absurd (h.first q g.state g.above more g.shown g.there)
]

-- and it is not, where there is none
next_or_none : (r : Recording) (from address p : ℕ) → IsNext r from address p → HasNone r from address → ⊥
next_or_none r from address p h none =
    let within = h.within in
    none p h.state h.above (omega arith) h.shown h.there

one_said : (r : Recording) (from : ℕ) (command : DebugCommand) (p q : ℕ) (s t : List ℕ) → Answers r from command p s
    → Answers r from command q t → (p ≡ q) × (s ≡ t)
one_said r from (Step n) p q s t h g = (h.leads ∙ sym g.leads, h.prints ∙ sym g.prints)
one_said r from (Back n) p q s t h g = (h.0 ∙ sym g.0, h.1 ∙ sym g.1)
one_said r from (Goto n) p q s t h g = (h.leads ∙ sym g.leads, h.prints ∙ sym g.prints)
one_said r from (Break address) p q s t (inl h) (inl g) = (one_next r from address p q h.0 g.0, h.1 ∙ sym g.1)
one_said r from (Break address) p q s t (inl h) (inr g) = absurd (next_or_none r from address p h.0 g.0)
one_said r from (Break address) p q s t (inr h) (inl g) = absurd (next_or_none r from address q g.0 h.0)
one_said r from (Break address) p q s t (inr h) (inr g) = (h.1 ∙ sym g.1, h.2 ∙ sym g.2)
one_said r from command p q s t h g = (
  h.stays ∙ sym g.stays,
  h.prints ∙ ap (shown_text command) (one_state r from h.state g.state h.shown g.shown) ∙ sym g.prints,
)

-- ---- the answers of commands

one_text : (r : Recording) (from : ℕ) (commands : List DebugCommand) (p q : ℕ) (s t : List ℕ) → Leads r from commands p s
    → Leads r from commands q t → s ≡ t
one_text r from [] p q s t h g = h.1 ∙ sym g.1
one_text r from (command ∷ commands) p q s t h g =
    let same = one_said r from command h.0 g.0 h.1 g.1 h.3 g.3 in
    let later = subst (λ n. Leads r n commands p h.2) same.0 h.4 in
    h.5 ∙ (λ i. same.1 i ++ one_text r g.0 commands p q h.2 g.2 later g.4 i) ∙ sym g.5

-- the text of the first commands begins that of all
front_text : (r : Recording) (from : ℕ) (made rest : List DebugCommand) (p q : ℕ) (s t : List ℕ) → Leads r from made p s
    → Leads r from (made ++ rest) q t → HasFront t s
front_text r from [] rest p q s t h g = (t, ap (λ (x : List ℕ). x ++ t) (sym h.1))
front_text r from (command ∷ made) rest p q s t h g =
    let same = one_said r from command h.0 g.0 h.1 g.1 h.3 g.3 in
    let later = subst (λ n. Leads r n made p h.2) same.0 h.4 in
    let left = front_text r g.0 made rest p q h.2 g.2 later g.4 in (
      left.0,
      g.5 ∙ (λ i. sym same.1 i ++ left.1 i) ∙ sym (append_assoc h.1 h.2 left.0) ∙ ap (λ (x : List ℕ). x ++ left.0) (sym h.5),
    )

-- ---- a script over a thread of a report

same_recording : (file report : List ℕ) (thread : ℕ) (a b : IsBlockIn file report thread) → recorded a ≡ recorded b
same_recording file report thread a b =
    let one = one_block file report thread a b in
    λ i. record {
      program = one.program i;
      config = one.config i;
      thread = thread;
      journal = (one.block i).journal;
      last = (one.block i).count;
    }

pub one_debug : (file report : List ℕ) (thread : ℕ) (script text other : List ℕ) → IsDebugOf file report thread script text
    → IsDebugOf file report thread script other → text ≡ other
one_debug file report thread script text other h g =
    let commands = one_Ok (script_in script) h.commands g.commands h.said g.said in
    let here =
    subst (λ (r : Recording). Leads r 0 h.commands h.prints.0 text) (same_recording file report thread h.at g.at) h.prints.1 in
    let there = subst (λ (cs : List DebugCommand). Leads (recorded g.at) 0 cs h.prints.0 text) commands here in
    one_text (recorded g.at) 0 g.commands h.prints.0 g.prints.0 text other there g.prints.1

-- what all commands print begins so
pub debug_whole : (file report : List ℕ) (thread : ℕ) (script text : List ℕ) → IsDebugFrontOf file report thread script text
    → (other : List ℕ) × IsDebugOf file report thread script other × HasFront other text
debug_whole file report thread script text h =
    let p = h.prints in
    let all = answers_of (recorded h.at) h.ends 0 h.commands (omega arith) in
    let whole = subst (λ (cs : List DebugCommand). Leads (recorded h.at) 0 cs all.1.0 all.0) p.are all.1.1 in (
      all.0,
      record { at = h.at; ends = h.ends; commands = h.commands; said = h.said; prints = all.1 },
      front_text (recorded h.at) 0 p.made (p.next ∷ p.left) p.place all.1.0 text all.0 p.leads whole,
    )
