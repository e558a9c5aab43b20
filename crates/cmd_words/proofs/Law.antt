-- Words ask for a command exactly where they have no fault, and for no number of an option that it does not take.
use Rattle.std.proofs.Common.{◌≡◌, ℕ, suc, ◌+◌, ◌-◌, ◌<◌, ◌≤◌, inl, inr, Bool, true, cond, List, [], ◌∷◌, length, drop}
use Rattle.std.proofs.Common.{get_or, Option, Some, None, refl, sym, ◌∙◌, ap, subst, arith}
use Rattle.std.proofs.lemmas.Option.{slice_get_past, none-some, same_Some, slice_get-get_or}
use Rattle.std.proofs.lemmas.Bool.{cases_lt}
use Rattle.std.specs.Prelude.{◌↔◌, slice_get, is_some, is_none, IsSome, option_and_then, option_map}
use Rattle.std.specs.List.{find, range_with_len}
use Rattle.plain_lemmas.proofs.Options.{IsSome_from, is_some-false}
use Rattle.cmd_words.specs.Forms.{Form, form_of}
use Rattle.cmd_words.specs.Options.{default_of, number_in, setting_in, word_of}
use Rattle.cmd_words.specs.Words.{Fault, Request, options_given, verb_of, form_asked, command_fault, operand_fault, arguments_of, request_for}
use Rattle.cmd_words.specs.Words.{fault_at, place_fault, usage_fault, command_of}
use Rattle.cmd_words.specs.declared.command.UsageKind.{UsageKind}
use Rattle.cmd_words.specs.declared.command.UsageKind.TheVariants.{Unknown}
use Rattle.cmd_words.specs.declared.form.Operand.{Operand}
use Rattle.cmd_words.specs.declared.form.Operand.TheVariants.{Name}
use Rattle.cmd_words.specs.declared.setting.Setting.{Setting}
use Rattle.cmd_words.specs.declared.setting.Setting.TheVariants.{Vl, Svl, Slice, Budget, Threads, Cores}
use Rattle.cmd_words.specs.declared.verb.Verb.{Verb}
use Rattle.cmd_words.specs.declared.verb.Verb.TheVariants.{Run, Sim, Dis, Asm, Replay, Debug, Ckpt, Resume, AbiCheck, Vectors}
use Rattle.cmd_words.specs.declared.verb.Verb.TheVariants.{Gen, Bench, Help, Version}
use Rattle.sm_types.proofs.Places.{none-find, find-passes}
use Rattle.cmd_words.proofs.Faults.{fault_at-operand}
use Rattle.cmd_words.proofs.Reading.{asked_of, sound_first}

map_some : {A B : Type 0} (f : A → B) (o : Option A) → is_some o ≡ true → option_map f o ≡ None → ⊥
map_some f None some none = cc
map_some f (Some x) some none = cc

-- where the words have no fault, no place has one
no_place : (words : List (List ℕ)) → usage_fault words ≡ None → (q : ℕ) → q < length words + 1 → fault_at words q ≡ None
unfolding usage_fault
no_place words e q l =
    let test : ℕ → Bool = λ place. is_some (fault_at words place) in
    elim (find test (range_with_len 0 (length words + 1))) as (λ o. find test (range_with_len 0 (length words + 1)) ≡ o
    → option_and_then (place_fault words) o ≡ None → fault_at words q ≡ None) [
      | None ↦ λ is n. is_some-false (fault_at words q) (none-find test (length words + 1) q is l)
      | Some p ↦ λ is n. absurd (map_some (λ (kind : UsageKind). let f : Fault = record { place = p; kind = kind } in f) (fault_at words p)
          (find-passes test (range_with_len 0 (length words + 1)) p is) n)
    ] refl e

known_verb : (verb : Option Verb) → ◌≡◌ {A = Option UsageKind} (cond (is_some verb) None (Some Unknown)) None → IsSome verb
known_verb None e = cc
known_verb (Some verb) e = refl

-- at the first place there is a word that is a command
command_stands : (word : Option (List ℕ)) → command_fault word ≡ None → IsSome (option_and_then verb_of word)
command_stands None e = cc
command_stands (Some word) e = known_verb (verb_of word) e

map_is_some : {A B : Type 0} (f : A → B) (o : Option A) → IsSome o → IsSome (option_map f o)
map_is_some f None e = cc
map_is_some f (Some x) e = refl

asks : (words : List (List ℕ)) → usage_fault words ≡ None → IsSome (command_of words)
unfolding command_of fault_at
asks words none =
    let stands : IsSome (option_and_then verb_of (slice_get words 0)) =
    command_stands (slice_get words 0) (no_place words none 0 (omega arith)) in
    rw none (map_is_some (request_for words) (option_and_then verb_of (slice_get words 0)) stands)

faultless : (fault : Option Fault) (command : Option Request) → IsSome (cond (is_none fault) command None) → fault ≡ None
faultless None command e = refl
faultless (Some fault) command e = cc

pub reading : (words : List (List ℕ)) → IsSome (command_of words) ↔ (usage_fault words ≡ None)
unfolding command_of
reading words = (λ e. faultless (usage_fault words) _ e, asks words)

-- ---- the operands

missing : (operand : Operand) (word : Option (List ℕ)) → word ≡ None → operand_fault operand word ≡ None → ⊥
missing operand word e h = let none : operand_fault operand None ≡ None = rw e at h in cc

-- where words without a fault end, no operand is to stand
enough : (words : List (List ℕ)) (form : Form) → usage_fault words ≡ None → form_asked words ≡ Some form
    → 1 + length form.operands ≤ length words
enough words form none asked =
    let first : 1 ≤ length words = (sound_first words form asked).inside in
    elim (cases_lt (length words) (1 + length form.operands)) [
      | inr fits ↦ fits
      | inl short ↦
          let k = length words - 1 in
          let inside : k < length form.operands = omega arith in
          let last : k + 1 ≡ length words = omega arith in
          absurd (missing (get_or form.operands k Name) (slice_get words (k + 1)) (slice_get_past words (k + 1) (omega arith))
          (sym (fault_at-operand words form k (get_or form.operands k Name) asked (slice_get-get_or form.operands k Name inside))
          ∙ no_place words none (k + 1) (omega arith)))
    ]

arguments-length : (operands : List Operand) (words : List (List ℕ)) → length operands ≤ length words
    → length (arguments_of operands words) ≡ length operands
arguments-length [] words l = refl
arguments-length (operand ∷ operands) [] l = absurd (omega arith)
arguments-length (operand ∷ operands) (word ∷ words) l = ap suc (arguments-length operands words (omega arith))

past_first : (words : List (List ℕ)) (n : ℕ) → 1 + n ≤ length words → n ≤ length (drop 1 words)
past_first [] n l = absurd (omega arith)
past_first (word ∷ words) n l = omega arith

full_of : (words : List (List ℕ)) (verb : Option Verb) (request : Request) → usage_fault words ≡ None
    → option_and_then verb_of (slice_get words 0) ≡ verb → option_map (request_for words) verb ≡ Some request
    → length request.operands ≡ length (form_of request.verb).operands
full_of words None request none is e = cc
full_of words (Some verb) request none is e =
    subst (λ (r : Request). length r.operands ≡ length (form_of r.verb).operands) (same_Some (request_for words verb) request e)
    (arguments-length (form_of verb).operands (drop 1 words)
    (past_first words (length (form_of verb).operands) (enough words (form_of verb) none (asked_of words verb is))))

unasked : (fault : Option Fault) (command : Option Request) (request : Request)
    → cond (is_none fault) command None ≡ Some request → command ≡ Some request
unasked None command request e = e
unasked (Some fault) command request e = cc

pub full : (words : List (List ℕ)) (request : Request) → command_of words ≡ Some request
    → length request.operands ≡ length (form_of request.verb).operands
unfolding command_of
full words request e =
    full_of words (option_and_then verb_of (slice_get words 0)) request
    (faultless (usage_fault words) _ (IsSome_from _ request e)) refl
    (unasked (usage_fault words) _ request e)

-- ---- the options that a command does not take

fixed_of : (verb : Verb) (setting : Setting) (words : List (List ℕ)) → setting_in (form_of verb).options (word_of setting) ≡ None
    → number_in (options_given (form_of verb) words) setting ≡ default_of setting
unfolding options_given setting_in
fixed_of Run Vl words e = absurd (none-some Vl (sym e))
fixed_of Run Svl words e = absurd (none-some Svl (sym e))
fixed_of Run Slice words e = absurd (none-some Slice (sym e))
fixed_of Run Budget words e = absurd (none-some Budget (sym e))
fixed_of Run Threads words e = absurd (none-some Threads (sym e))
fixed_of Run Cores words e = absurd (none-some Cores (sym e))
fixed_of Sim Vl words e = absurd (none-some Vl (sym e))
fixed_of Sim Svl words e = absurd (none-some Svl (sym e))
fixed_of Sim Slice words e = absurd (none-some Slice (sym e))
fixed_of Sim Budget words e = absurd (none-some Budget (sym e))
fixed_of Sim Threads words e = absurd (none-some Threads (sym e))
fixed_of Sim Cores words e = absurd (none-some Cores (sym e))
fixed_of Dis setting words e = refl
fixed_of Asm setting words e = refl
fixed_of Replay setting words e = refl
fixed_of Debug setting words e = refl
fixed_of Ckpt setting words e = refl
fixed_of Resume setting words e = refl
fixed_of AbiCheck setting words e = refl
fixed_of Vectors Vl words e = absurd (none-some Vl (sym e))
fixed_of Vectors Svl words e = absurd (none-some Svl (sym e))
fixed_of Vectors Slice words e = refl
fixed_of Vectors Budget words e = refl
fixed_of Vectors Threads words e = refl
fixed_of Vectors Cores words e = absurd (none-some Cores (sym e))
fixed_of Gen setting words e = refl
fixed_of Bench Vl words e = refl
fixed_of Bench Svl words e = refl
fixed_of Bench Slice words e = refl
fixed_of Bench Budget words e = refl
fixed_of Bench Threads words e = refl
fixed_of Bench Cores words e = absurd (none-some Cores (sym e))
fixed_of Help setting words e = refl
fixed_of Version setting words e = refl

fixed_for : (words : List (List ℕ)) (verb : Option Verb) (request : Request) (setting : Setting)
    → option_map (request_for words) verb ≡ Some request → setting_in (form_of request.verb).options (word_of setting) ≡ None
    → number_in request.options setting ≡ default_of setting
fixed_for words None request setting e none = cc
fixed_for words (Some verb) request setting e none =
    subst (λ (r : Request). setting_in (form_of r.verb).options (word_of setting) ≡ None → number_in r.options setting ≡ default_of setting)
    (same_Some (request_for words verb) request e) (fixed_of verb setting words) none

pub fixed : (words : List (List ℕ)) (request : Request) (setting : Setting) → command_of words ≡ Some request
    → setting_in (form_of request.verb).options (word_of setting) ≡ None → number_in request.options setting ≡ default_of setting
unfolding command_of
fixed words request setting e none =
    fixed_for words (option_and_then verb_of (slice_get words 0)) request setting (unasked (usage_fault words) _ request e) none
