-- The words of a command line, read operand by operand and option by option.
use Rattle.std.proofs.Common.{◌≡◌, ◌≢◌, ℕ, zero, suc, ◌+◌, ◌-◌, ◌%◌, ◌<◌, ◌≤◌, ◌⊎◌, inl, inr, Bool, true, false, cond, List, [], ◌∷◌}
use Rattle.std.proofs.Common.{length, Option, Some, None, refl, sym, ◌∙◌, ap, subst, arith, drop, get_or, add-one, drop-cons}
use Rattle.std.proofs.Math.ListN.{drop_of_length-le}
use Rattle.std.specs.Prelude.{slice_get, is_some, IsSome, option_and_then, option_map, unwrap_or}
use Rattle.std.specs.Option.{ForSome, MatchOption}
use Rattle.std.specs.List.{find, range_with_len}
use Rattle.std.specs.Str.{bytes_eq}
use Rattle.std.proofs.lemmas.Slice.Eq.{bytes_eq-Decides}
use Rattle.std.proofs.lemmas.Option.{slice_get_past, same_Some, slice_get_within, none-some}
use Rattle.std.proofs.lemmas.Bool.{lt-leb, both_ways}
use Rattle.plain_lemmas.proofs.Options.{is_some-false}
use Rattle.cmd_words.specs.Forms.{Form, form_of, options_from, run_options}
use Rattle.line_reader.specs.Numbers.{is_decimal, decimal_value}
use Rattle.sm_types.specs.Options.{are_taken}
use Rattle.sm_types.specs.declared.numbers.Numbers.{Numbers}
use Rattle.cmd_words.specs.Options.{default_options, word_of, setting_in, takes, default_of, with_number, with_numbers}
use Rattle.cmd_words.specs.Command.{asking}
use Rattle.cmd_words.specs.Words.{Argument, NameSaid, ThreadSaid, WorkloadSaid, CountSaid, arguments_of}
use Rattle.cmd_words.specs.Words.{verb_of, form_asked, command_fault, operand_fault, no_option, request_for, stands_at}
use Rattle.cmd_words.specs.Words.{option_place, option_fault, value_fault, fault_at, usage_fault, value_below, number_given, options_given}
use Rattle.cmd_words.specs.Words.{command_of}
use Rattle.cmd_words.specs.Given.{given_of, numbers_given, IsSoundTo, IsReadTo}
use Rattle.cmd_words.specs.declared.command.UsageKind.{UsageKind}
use Rattle.cmd_words.specs.declared.command.UsageKind.TheVariants.{Unknown, Repeated}
use Rattle.cmd_words.specs.declared.form.Operand.{Operand}
use Rattle.cmd_words.specs.declared.form.Operand.TheVariants.{Name, Thread, Workload, Count}
use Rattle.cmd_words.specs.declared.given.Given.{Given}
use Rattle.cmd_words.specs.declared.setting.Setting.{Setting}
use Rattle.cmd_words.specs.declared.setting.Setting.TheVariants.{Vl, Svl, Slice, Budget, Threads, Cores}
use Rattle.cmd_words.specs.declared.verb.Verb.{Verb}
use Rattle.cmd_words.specs.declared.verb.Verb.TheVariants.{Bench, Vectors}
use Rattle.sm_types.proofs.Places.{or_next, find-more, find-none}
use Rattle.cmd_words.proofs.Faults.{at_option, at_value, fault_at-operand, fault_at-option, fault_at-value, usage_at, usage_none}

-- ---- options and their words

-- a word that is an option is the option's word
setting_word : (settings : List Setting) (word : List ℕ) (s : Setting) → setting_in settings word ≡ Some s → word ≡ word_of s
unfolding setting_in
setting_word [] word s e = cc
setting_word (first ∷ settings) word s e =
    elim (bytes_eq word (word_of first)) as (λ b. bytes_eq word (word_of first) ≡ b
    → cond b (Some first) (setting_in settings word) ≡ Some s → word ≡ word_of s) [
      | true ↦ λ is h. (bytes_eq-Decides word (word_of first)).0 is ∙ ap word_of (same_Some first s h)
      | false ↦ λ is h. setting_word settings word s h
    ] refl e

-- the first of the options that are left, or one of the others
pub setting_at : (settings : List Setting) (word : List ℕ) (i : ℕ) (d : Setting) → i < length settings
    → setting_in (drop i settings) word ≡ cond (bytes_eq word (word_of (get_or settings i d))) (Some (get_or settings i d))
    (setting_in (drop (i + 1) settings) word)
unfolding setting_in
setting_at settings word i d l = rw (add-one, drop-cons settings i d l) refl

-- past the last none is left
pub setting_past : (settings : List Setting) (word : List ℕ) (i : ℕ) → length settings ≤ i → setting_in (drop i settings) word ≡ None
unfolding setting_in
setting_past settings word i l = rw (drop_of_length-le settings l) refl

abbrev all_settings : List Setting
all_settings = Vl ∷ Svl ∷ Slice ∷ Budget ∷ Threads ∷ Cores ∷ []

-- each option is that of its word
of_word : (s : Setting) → setting_in all_settings (word_of s) ≡ Some s
unfolding setting_in
of_word Vl = refl
of_word Svl = refl
of_word Slice = refl
of_word Budget = refl
of_word Threads = refl
of_word Cores = refl

-- options of one word are one
one_word : (s t : Setting) → word_of t ≡ word_of s → t ≡ s
one_word s t e = same_Some t s (sym (of_word t) ∙ ap (setting_in all_settings) e ∙ of_word s)

same_or : (s t : Setting) → (t ≡ s) ⊎ (t ≢ s)
same_or s t = elim (bytes_eq (word_of t) (word_of s)) as (λ b. bytes_eq (word_of t) (word_of s) ≡ b → (t ≡ s) ⊎ (t ≢ s)) [
  | true ↦ λ is. inl (one_word s t ((bytes_eq-Decides (word_of t) (word_of s)).0 is))
  | false ↦ λ is. inr (λ e. both_ways (bytes_eq (word_of t) (word_of s)) is ((bytes_eq-Decides (word_of t) (word_of s)).1 (ap word_of e)))
] refl

words_apart : (s t : Setting) → t ≢ s → bytes_eq (word_of t) (word_of s) ≡ false
words_apart s t d = elim (bytes_eq (word_of t) (word_of s)) as (λ b. bytes_eq (word_of t) (word_of s) ≡ b → b ≡ false) [
  | true ↦ λ is. absurd (d (one_word s t ((bytes_eq-Decides (word_of t) (word_of s)).0 is)))
  | false ↦ λ is. refl
] refl

-- a number that is given is in the option's range, and so is the number where none is given
pub number_in_range : (s : Setting) (given : Option ℕ) → ForSome given (λ n. takes s n ≡ true)
    → takes s (unwrap_or given (default_of s)) ≡ true
number_in_range s (Some n) h = h n refl
number_in_range Vl None h = refl
number_in_range Svl None h = refl
number_in_range Slice None h = refl
number_in_range Budget None h = refl
number_in_range Threads None h = refl
number_in_range Cores None h = refl

-- so the numbers of all options are
pub numbers_taken : (given : Given) → ((s : Setting) → ForSome (given_of given s) (λ n. takes s n ≡ true))
    → are_taken (numbers_given given) ≡ true
unfolding are_taken
numbers_taken given h =
    rw (
      number_in_range Vl (given_of given Vl) (h Vl),
      number_in_range Svl (given_of given Svl) (h Svl),
      number_in_range Slice (given_of given Slice) (h Slice),
      number_in_range Budget (given_of given Budget) (h Budget),
      number_in_range Threads (given_of given Threads) (h Threads),
      number_in_range Cores (given_of given Cores) (h Cores),
    ) refl

-- ---- the places of options

or_next-false : (o : Option ℕ) (passes : Bool) (place : ℕ) → passes ≡ false → or_next o passes place ≡ o
or_next-false None passes place e = rw e refl
or_next-false (Some p) passes place e = refl

same_or_low : (q p : ℕ) → q < p + 1 → (q ≡ p) ⊎ (q < p)
same_or_low q p l = grind arith

module _ (words : List (List ℕ)) (form : Form) where
  stands-here : (option word : List ℕ) (p : ℕ) → options_from form ≤ p → (p - options_from form) % 2 ≡ 0 → slice_get words p ≡ Some word
      → stands_at form words option p ≡ bytes_eq option word
  stands-here option word p l even at = rw (at_option form p l even, at) refl

  stands-value : (option : List ℕ) (p : ℕ) → options_from form ≤ p → (p - options_from form) % 2 ≡ 0
      → stands_at form words option (p + 1) ≡ false
  stands-value option p l even = rw (at_value form p l even) refl

  -- before the first option none stands
  stands-before : (option : List ℕ) (q : ℕ) → q < options_from form → stands_at form words option q ≡ false
  stands-before option q l = rw (lt-leb (options_from form) q l) refl

  no_place : (option : List ℕ) → option_place form words option (options_from form) ≡ None
  unfolding option_place
  no_place option = find-none (stands_at form words option) (options_from form) (stands-before option)

  option_place-more : (option : List ℕ) (p : ℕ) → options_from form ≤ p → (p - options_from form) % 2 ≡ 0
      → option_place form words option (p + 2) ≡ or_next (option_place form words option p) (stands_at form words option p) p
  unfolding option_place
  option_place-more option p l even =
      let two : p + 2 ≡ p + 1 + 1 = omega arith in
      rw two (find-more (stands_at form words option) (p + 1)
      ∙ or_next-false (find (stands_at form words option) (range_with_len 0 (p + 1))) (stands_at form words option (p + 1)) (p + 1)
      (stands-value option p l even)
      ∙ find-more (stands_at form words option) p)

  -- the option that stands at a place for the first time
  place_here : (word : List ℕ) (s : Setting) (p : ℕ) → options_from form ≤ p → (p - options_from form) % 2 ≡ 0
      → slice_get words p ≡ Some word → word ≡ word_of s
      → option_place form words (word_of s) p ≡ None → option_place form words (word_of s) (p + 2) ≡ Some p
  place_here word s p l even at is before =
      option_place-more (word_of s) p l even
      ∙ ap (λ o. or_next o (stands_at form words (word_of s) p) p) before
      ∙ ap (λ b. cond b (Some p) None) (stands-here (word_of s) word p l even at ∙ (bytes_eq-Decides (word_of s) word).1 (sym is))

  -- the other options stand where they stood
  place_other : (word : List ℕ) (s t : Setting) (p : ℕ) → options_from form ≤ p → (p - options_from form) % 2 ≡ 0
      → slice_get words p ≡ Some word → word ≡ word_of s
      → t ≢ s → option_place form words (word_of t) (p + 2) ≡ option_place form words (word_of t) p
  place_other word s t p l even at is d =
      option_place-more (word_of t) p l even
      ∙ or_next-false (option_place form words (word_of t) p) (stands_at form words (word_of t) p) p
      (stands-here (word_of t) word p l even at ∙ ap (bytes_eq (word_of t)) is ∙ words_apart s t d)

-- ---- the faults of an option's word

module _ (words : List (List ℕ)) (form : Form) (p : ℕ) (given : Given) (word : List ℕ) (h : IsReadTo words form p given)
    (at : slice_get words p ≡ Some word) where
  option_here : fault_at words p ≡ option_fault form words p (Some word)
  option_here = fault_at-option words form p h.asked h.past h.even ∙ ap (option_fault form words p) at

  pub unknown_here : setting_in form.options word ≡ None → fault_at words p ≡ Some (no_option form.options)
  unknown_here e = option_here ∙ rw e refl

  -- an option stands before where it is given
  placed_word : (s : Setting) → setting_in form.options word ≡ Some s
      → is_some (option_place form words word p) ≡ is_some (given_of given s)
  placed_word s e = ap (λ o. is_some (option_place form words o p)) (setting_word form.options word s e) ∙ sym (h.placed s)

  pub repeated_here : (s : Setting) → setting_in form.options word ≡ Some s → IsSome (given_of given s) → fault_at words p ≡ Some Repeated
  repeated_here s e some = option_here ∙ rw (e, placed_word s e, some) refl

  pub new_here : (s : Setting) → setting_in form.options word ≡ Some s → given_of given s ≡ None → fault_at words p ≡ None
  new_here s e none = option_here ∙ rw (e, placed_word s e, none) refl

  -- the places up to that of the value have no fault
  pub sound_to_value : (s : Setting) → setting_in form.options word ≡ Some s → given_of given s ≡ None → (q : ℕ) → q < p + 1
      → fault_at words q ≡ None
  sound_to_value s e none q l = elim (same_or_low q p l) [
    | inl same ↦ subst (λ n. fault_at words n ≡ None) (sym same) (new_here s e none)
    | inr low ↦ h.sound q low
  ]

  pub value_here : (s : Setting) → setting_in form.options word ≡ Some s
      → fault_at words (p + 1) ≡ value_fault (Some s) (slice_get words (p + 1))
  value_here s e = fault_at-value words form p h.asked h.past h.even ∙ rw (at, e) refl

  -- the first fault of the words is that of the option's word
  pub setting_fault : (kind : UsageKind) → MatchOption (setting_in form.options word) (kind ≡ no_option form.options)
      (λ s. (kind ≡ Repeated) × IsSome (given_of given s)) → usage_fault words ≡ Some (record { place = p; kind = kind })
  setting_fault kind why =
      usage_at words p kind h.inside (elim (setting_in form.options word) as (λ o. setting_in form.options word ≡ o
      → MatchOption o (kind ≡ no_option form.options) (λ s. (kind ≡ Repeated) × IsSome (given_of given s)) → fault_at words p ≡ Some kind) [
        | None ↦ λ is w. unknown_here is ∙ ap Some (sym w)
        | Some s ↦ λ is w. repeated_here s is w.1 ∙ ap Some (sym w.0)
      ] refl why) h.sound

  -- the first fault of the words is that of the option's value
  pub value_usage : (s : Setting) (kind : UsageKind) (value : Option (List ℕ)) → setting_in form.options word ≡ Some s
      → given_of given s ≡ None → value ≡ slice_get words (p + 1) → value_fault (Some s) value ≡ Some kind
      → usage_fault words ≡ Some (record { place = p + 1; kind = kind })
  value_usage s kind value is none after why =
      usage_at words (p + 1) kind (let l : p < length words = slice_get_within words p word at in omega arith)
      (value_here s is ∙ ap (value_fault (Some s)) (sym after) ∙ why) (sound_to_value s is none)

  -- ---- one more option is read

  module _ (s : Setting) (value : List ℕ) (number : ℕ) (more : Given) (is : setting_in form.options word ≡ Some s)
      (none : given_of given s ≡ None)
      (after : slice_get words (p + 1) ≡ Some value) (digits : is_decimal value ≡ true) (reads : number ≡ decimal_value value)
      (in_range : takes s number ≡ true)
      (set : given_of more s ≡ Some number) (others : (t : Setting) → t ≢ s → given_of more t ≡ given_of given t) where
    value_sound : fault_at words (p + 1) ≡ None
    value_sound = value_here s is ∙ ap (value_fault (Some s)) after ∙ rw (digits, ← reads, in_range) refl

    sound_more : (q : ℕ) → q < p + 2 → fault_at words q ≡ None
    sound_more q l = elim (same_or_low q (p + 1) (omega arith)) [
      | inl same ↦ subst (λ n. fault_at words n ≡ None) (sym same) value_sound
      | inr low ↦ sound_to_value s is none q low
    ]

    none_before : option_place form words (word_of s) p ≡ None
    none_before = is_some-false (option_place form words (word_of s) p) (sym (h.placed s) ∙ ap is_some none)

    now_here : option_place form words (word_of s) (p + 2) ≡ Some p
    now_here = place_here words form word s p h.past h.even at (setting_word form.options word s is) none_before

    placed_more : (t : Setting) → is_some (given_of more t) ≡ is_some (option_place form words (word_of t) (p + 2))
    placed_more t = elim (same_or s t) [
      | inl same ↦ subst (λ (u : Setting). is_some (given_of more u) ≡ is_some (option_place form words (word_of u) (p + 2))) (sym same)
          (ap is_some set ∙ sym (ap is_some now_here))
      | inr d ↦ ap is_some (others t d) ∙ h.placed t
          ∙ sym (ap is_some (place_other words form word s t p h.past h.even at (setting_word form.options word s is) d))
    ]

    value_now : value_below form words s (p + 2) ≡ Some number
    unfolding value_below
    value_now =
        ap (option_and_then (λ place. option_map decimal_value (slice_get words (place + 1)))) now_here
        ∙ ap (option_map decimal_value) after ∙ ap Some (sym reads)

    value_still : (t : Setting) → t ≢ s → value_below form words t (p + 2) ≡ value_below form words t p
    unfolding value_below
    value_still t d =
        ap (option_and_then (λ place. option_map decimal_value (slice_get words (place + 1))))
        (place_other words form word s t p h.past h.even at (setting_word form.options word s is) d)

    valued_more : (t : Setting) → given_of more t ≡ value_below form words t (p + 2)
    valued_more t = elim (same_or s t) [
      | inl same ↦ subst (λ (u : Setting). given_of more u ≡ value_below form words u (p + 2)) (sym same) (set ∙ sym value_now)
      | inr d ↦ others t d ∙ h.valued t ∙ sym (value_still t d)
    ]

    untaken_more : (t : Setting) → setting_in form.options (word_of t) ≡ None → given_of more t ≡ None
    untaken_more t e = elim (same_or s t) [
      | inl same ↦ absurd (none-some s (sym e ∙ ap (λ (u : Setting). setting_in form.options (word_of u)) same
          ∙ sym (ap (setting_in form.options) (setting_word form.options word s is)) ∙ is))
      | inr d ↦ others t d ∙ h.untaken t e
    ]

    range_more : (t : Setting) → ForSome (given_of more t) (λ n. takes t n ≡ true)
    range_more t = elim (same_or s t) [
      | inl same ↦ subst (λ (u : Setting). ForSome (given_of more u) (λ n. takes u n ≡ true)) (sym same)
          (λ n e. subst (λ m. takes s m ≡ true) (same_Some number n (sym set ∙ e)) in_range)
      | inr d ↦ subst (λ (o : Option ℕ). ForSome o (λ n. takes t n ≡ true)) (sym (others t d)) (h.in_range t)
    ]

    pub read_more : IsReadTo words form (p + 2) more
    read_more = record {
      asked = h.asked;
      even = let e : (p - options_from form) % 2 ≡ 0 = h.even in let l : options_from form ≤ p = h.past in omega arith;
      past = let l : options_from form ≤ p = h.past in omega arith;
      inside = let l : p + 1 < length words = slice_get_within words (p + 1) value after in omega arith;
      sound = sound_more;
      placed = placed_more;
      valued = valued_more;
      untaken = untaken_more;
      in_range = range_more;
    }

-- ---- before the first option, and after the last

-- where a command stands, there is a word
verb_inside : (words : List (List ℕ)) (verb : Verb) → option_and_then verb_of (slice_get words 0) ≡ Some verb → 1 ≤ length words
verb_inside [] verb e = cc
verb_inside (w ∷ ws) verb e = omega arith

command_there : (word : Option (List ℕ)) (verb : Verb) → option_and_then verb_of word ≡ Some verb → command_fault word ≡ None
command_there None verb e = cc
command_there (Some word) verb e = rw e refl

form_there : (verb : Option Verb) (form : Form) → option_map form_of verb ≡ Some form → (v : Verb) × (verb ≡ Some v)
form_there None form e = cc
form_there (Some v) form e = (v, refl)

-- the form of the command that stands
pub asked_of : (words : List (List ℕ)) (verb : Verb) → option_and_then verb_of (slice_get words 0) ≡ Some verb
    → form_asked words ≡ Some (form_of verb)
asked_of words verb e = ap (option_map form_of) e

-- where a command stands, its place has no fault
command_sound : (words : List (List ℕ)) (verb : Verb) → option_and_then verb_of (slice_get words 0) ≡ Some verb → fault_at words 0 ≡ None
unfolding fault_at
command_sound words verb e = command_there (slice_get words 0) verb e

below_one : (words : List (List ℕ)) (verb : Verb) → option_and_then verb_of (slice_get words 0) ≡ Some verb → (q : ℕ) → q < 1
    → fault_at words q ≡ None
below_one words verb e zero l = command_sound words verb e
below_one words verb e (suc q) l = absurd (omega arith)

pub sound_first : (words : List (List ℕ)) (form : Form) → form_asked words ≡ Some form → IsSoundTo words 1
sound_first words form asked =
    let verb = form_there (option_and_then verb_of (slice_get words 0)) form asked in
    record { inside = verb_inside words verb.0 verb.1; sound = below_one words verb.0 verb.1 }

-- there is no word, or none that is a command
pub first_fault : (words : List (List ℕ)) (kind : UsageKind) → command_fault (slice_get words 0) ≡ Some kind
    → usage_fault words ≡ Some (record { place = 0; kind = kind })
unfolding fault_at
first_fault words kind e = usage_at words 0 kind (omega arith) e (λ q l. absurd (omega arith))

-- a word that is no command
pub unknown_word : (word : List ℕ) → verb_of word ≡ None → command_fault (Some word) ≡ Some Unknown
unknown_word word e = rw e refl

-- ---- the operands

stands_there : (operand : Operand) (word : Option (List ℕ)) → operand_fault operand word ≡ None → IsSome word
stands_there operand None e = cc
stands_there operand (Some word) e = refl

pub some_inside : (words : List (List ℕ)) (i : ℕ) → IsSome (slice_get words i) → i < length words
some_inside [] i e = cc
some_inside (w ∷ ws) zero e = omega arith
some_inside (w ∷ ws) (suc i) e = let l : i < length ws = some_inside ws i e in omega arith

module _ (words : List (List ℕ)) (form : Form) (k : ℕ) (operand : Operand) (asked : form_asked words ≡ Some form)
    (at : slice_get form.operands k ≡ Some operand) (h : IsSoundTo words (k + 1)) where
  -- the first fault of the words is that of the operand
  pub operand_usage : (kind : UsageKind) → operand_fault operand (slice_get words (k + 1)) ≡ Some kind
      → usage_fault words ≡ Some (record { place = k + 1; kind = kind })
  operand_usage kind why = usage_at words (k + 1) kind h.inside (fault_at-operand words form k operand asked at ∙ why) h.sound

  operand_sound : operand_fault operand (slice_get words (k + 1)) ≡ None → (q : ℕ) → q < k + 1 + 1 → fault_at words q ≡ None
  operand_sound why q l = elim (same_or_low q (k + 1) l) [
    | inl same ↦ subst (λ n. fault_at words n ≡ None) (sym same) (fault_at-operand words form k operand asked at ∙ why)
    | inr low ↦ h.sound q low
  ]

  -- one more operand stands
  pub operand_more : operand_fault operand (slice_get words (k + 1)) ≡ None → IsSoundTo words (k + 1 + 1)
  operand_more why = record {
    inside = let l : k + 1 < length words = some_inside words (k + 1) (stands_there operand (slice_get words (k + 1)) why) in omega arith;
    sound = operand_sound why;
  }

-- ---- the options

-- no option is read yet
pub read_start : (words : List (List ℕ)) (form : Form) (given : Given) → form_asked words ≡ Some form → IsSoundTo words (options_from form)
    → ((s : Setting) → given_of given s ≡ None) → IsReadTo words form (options_from form) given
unfolding value_below
read_start words form given asked h none = record {
  asked = asked;
  even = omega arith;
  past = omega arith;
  inside = h.inside;
  sound = h.sound;
  placed = λ s. ap is_some (none s) ∙ sym (ap is_some (no_place words form (word_of s)));
  valued =
      λ s. none s ∙ sym (ap (option_and_then (λ place. option_map decimal_value (slice_get words (place + 1))))
      (no_place words form (word_of s)));
  untaken = λ s e. none s;
  in_range = λ s n e. absurd (none-some n (sym (none s) ∙ e));
}

module _ (words : List (List ℕ)) (form : Form) (given : Given) (h : IsReadTo words form (length words) given) where
  sound_last : fault_at words (length words) ≡ None
  sound_last =
      fault_at-option words form (length words) h.asked h.past h.even
      ∙ ap (option_fault form words (length words)) (slice_get_past words (length words) (omega arith))

  sound_all : (q : ℕ) → q < length words + 1 → fault_at words q ≡ None
  sound_all q l = elim (same_or_low q (length words) l) [
    | inl same ↦ subst (λ n. fault_at words n ≡ None) (sym same) sound_last
    | inr low ↦ h.sound q low
  ]

  -- words that are read to their end ask for what their command does
  pub read_end : (verb : Verb) → option_and_then verb_of (slice_get words 0) ≡ Some verb → command_of words ≡ Some (request_for words verb)
  unfolding command_of
  read_end verb is = rw (usage_none words sound_all, is) refl

  pub given_number : (s : Setting) → number_given form words s ≡ unwrap_or (given_of given s) (default_of s)
  unfolding number_given
  given_number s = ap (λ o. unwrap_or o (default_of s)) (sym (h.valued s))

-- the options of a command that runs threads
pub given_options : (words : List (List ℕ)) (operands : List Operand) (given : Given)
    → IsReadTo words (record { operands = operands; options = run_options }) (length words) given
    → options_given (record { operands = operands; options = run_options }) words ≡ numbers_given given
unfolding options_given
given_options words operands given h =
    let form : Form = record { operands = operands; options = run_options } in
    rw (
      given_number words form given h Vl,
      given_number words form given h Svl,
      given_number words form given h Slice,
      given_number words form given h Budget,
      given_number words form given h Threads,
      given_number words form given h Cores,
    ) refl

pub to_end : (words : List (List ℕ)) (form : Form) (given : Given) (n : ℕ) → n ≡ length words → IsReadTo words form n given
    → IsReadTo words form (length words) given
to_end words form given n e h = subst (λ (m : ℕ). IsReadTo words form m given) e h

-- what a command asks for
pub asked_for : (words : List (List ℕ)) (given : Given) (verb : Verb) (operands : List Argument) (options : Numbers) (n : ℕ)
    → n ≡ length words → IsReadTo words (form_of verb) n given → option_and_then verb_of (slice_get words 0) ≡ Some verb
    → arguments_of (form_of verb).operands (drop 1 words) ≡ operands → options_given (form_of verb) words ≡ options
    → command_of words ≡ Some (asking verb operands options)
asked_for words given verb operands options n e h is said numbers =
    read_end words (form_of verb) given (to_end words (form_of verb) given n e h) verb is
    ∙ ap (λ (o : List Argument). Some (asking verb o (options_given (form_of verb) words))) said
    ∙ ap (λ (o : Numbers). Some (asking verb operands o)) numbers

-- a command without options has those of a run that is given none
pub no_options : (verb : Verb) (words : List (List ℕ)) → (form_of verb).options ≡ [] → options_given (form_of verb) words ≡ default_options
unfolding options_given
no_options verb words none =
    ap (λ (settings : List Setting). with_numbers default_options settings (number_given (form_of verb) words)) none

-- the operand of a command that has a name alone
pub named : (words : List (List ℕ)) (name : List ℕ) → slice_get words 1 ≡ Some name
    → arguments_of (Name ∷ []) (drop 1 words) ≡ NameSaid name ∷ []
named [] name e = cc
named (w ∷ []) name e = cc
named (w ∷ v ∷ words) name e = ap (λ n. NameSaid n ∷ []) (same_Some v name e)

-- the operands of a command that has two names
pub both_named : (words : List (List ℕ)) (first second : List ℕ) → slice_get words 1 ≡ Some first → slice_get words 2 ≡ Some second
    → arguments_of (Name ∷ Name ∷ []) (drop 1 words) ≡ NameSaid first ∷ NameSaid second ∷ []
both_named [] first second e f = cc
both_named (w ∷ []) first second e f = cc
both_named (w ∷ v ∷ []) first second e f = cc
both_named (w ∷ v ∷ u ∷ words) first second e f =
    ap (λ n. NameSaid n ∷ NameSaid u ∷ []) (same_Some v first e) ∙ ap (λ n. NameSaid first ∷ NameSaid n ∷ []) (same_Some u second f)

-- where words are read past the operands, each of them has no fault
pub operand_stands : (words : List (List ℕ)) (form : Form) (given : Given) (n k : ℕ) (operand : Operand) → IsReadTo words form n given
    → slice_get form.operands k ≡ Some operand → k < length form.operands
    → ForSome (slice_get words (k + 1)) (λ word. operand_fault operand (Some word) ≡ None)
operand_stands words form given n k operand h is l = λ word at.
    let past : 1 + length form.operands ≤ n = h.past in
    ap (operand_fault operand) (sym at) ∙ sym (fault_at-operand words form k operand h.asked is) ∙ h.sound (k + 1) (omega arith)

-- the operands of `replay`
pub replayed : (words : List (List ℕ)) (program report : List ℕ) (thread : ℕ) → slice_get words 1 ≡ Some program
    → slice_get words 2 ≡ Some report → option_map decimal_value (slice_get words 3) ≡ Some thread
    → arguments_of (Name ∷ Name ∷ Thread ∷ []) (drop 1 words) ≡ NameSaid program ∷ NameSaid report ∷ ThreadSaid thread ∷ []
replayed [] program report thread e f g = cc
replayed (w ∷ []) program report thread e f g = cc
replayed (w ∷ p ∷ []) program report thread e f g = cc
replayed (w ∷ p ∷ r ∷ []) program report thread e f g = cc
replayed (w ∷ p ∷ r ∷ t ∷ words) program report thread e f g =
    ap (λ n. NameSaid n ∷ NameSaid r ∷ ThreadSaid (decimal_value t) ∷ []) (same_Some p program e)
    ∙ ap (λ n. NameSaid program ∷ NameSaid n ∷ ThreadSaid (decimal_value t) ∷ []) (same_Some r report f)
    ∙ ap (λ n. NameSaid program ∷ NameSaid report ∷ ThreadSaid n ∷ []) (same_Some (decimal_value t) thread g)

-- the operands of `debug`
pub debugged : (words : List (List ℕ)) (program report : List ℕ) (thread : ℕ) (script : List ℕ) → slice_get words 1 ≡ Some program
    → slice_get words 2 ≡ Some report → option_map decimal_value (slice_get words 3) ≡ Some thread → slice_get words 4 ≡ Some script
    → arguments_of (Name ∷ Name ∷ Thread ∷ Name ∷ []) (drop 1 words)
    ≡ NameSaid program ∷ NameSaid report ∷ ThreadSaid thread ∷ NameSaid script ∷ []
debugged [] program report thread script e f g h = cc
debugged (w ∷ []) program report thread script e f g h = cc
debugged (w ∷ p ∷ []) program report thread script e f g h = cc
debugged (w ∷ p ∷ r ∷ []) program report thread script e f g h = cc
debugged (w ∷ p ∷ r ∷ t ∷ []) program report thread script e f g h = cc
debugged (w ∷ p ∷ r ∷ t ∷ s ∷ words) program report thread script e f g h =
    ap (λ n. NameSaid n ∷ NameSaid r ∷ ThreadSaid (decimal_value t) ∷ NameSaid s ∷ []) (same_Some p program e)
    ∙ ap (λ n. NameSaid program ∷ NameSaid n ∷ ThreadSaid (decimal_value t) ∷ NameSaid s ∷ []) (same_Some r report f)
    ∙ ap (λ n. NameSaid program ∷ NameSaid report ∷ ThreadSaid n ∷ NameSaid s ∷ []) (same_Some (decimal_value t) thread g)
    ∙ ap (λ n. NameSaid program ∷ NameSaid report ∷ ThreadSaid thread ∷ NameSaid n ∷ []) (same_Some s script h)

-- the operand of a command that has the number of a workload alone
pub numbered : (words : List (List ℕ)) (number : ℕ) → option_map decimal_value (slice_get words 1) ≡ Some number
    → arguments_of (Workload ∷ []) (drop 1 words) ≡ WorkloadSaid number ∷ []
numbered [] number e = cc
numbered (w ∷ []) number e = cc
numbered (w ∷ v ∷ words) number e = ap (λ n. WorkloadSaid n ∷ []) (same_Some (decimal_value v) number e)

-- the options of `bench`: the cores alone are read
pub bench_options : (words : List (List ℕ)) (given : Given) → IsReadTo words (form_of Bench) (length words) given
    → options_given (form_of Bench) words ≡ with_number default_options Cores (unwrap_or (given_of given Cores) (default_of Cores))
unfolding options_given
bench_options words given h = ap (with_number default_options Cores) (given_number words (form_of Bench) given h Cores)

-- the operands of `ckpt`
pub counted : (words : List (List ℕ)) (program report : List ℕ) (thread count : ℕ) → slice_get words 1 ≡ Some program
    → slice_get words 2 ≡ Some report → option_map decimal_value (slice_get words 3) ≡ Some thread
    → option_map decimal_value (slice_get words 4) ≡ Some count
    → arguments_of (Name ∷ Name ∷ Thread ∷ Count ∷ []) (drop 1 words)
    ≡ NameSaid program ∷ NameSaid report ∷ ThreadSaid thread ∷ CountSaid count ∷ []
counted [] program report thread count e f g h = cc
counted (w ∷ []) program report thread count e f g h = cc
counted (w ∷ p ∷ []) program report thread count e f g h = cc
counted (w ∷ p ∷ r ∷ []) program report thread count e f g h = cc
counted (w ∷ p ∷ r ∷ t ∷ []) program report thread count e f g h = cc
counted (w ∷ p ∷ r ∷ t ∷ c ∷ words) program report thread count e f g h =
    ap (λ n. NameSaid n ∷ NameSaid r ∷ ThreadSaid (decimal_value t) ∷ CountSaid (decimal_value c) ∷ []) (same_Some p program e)
    ∙ ap (λ n. NameSaid program ∷ NameSaid n ∷ ThreadSaid (decimal_value t) ∷ CountSaid (decimal_value c) ∷ []) (same_Some r report f)
    ∙ ap (λ n. NameSaid program ∷ NameSaid report ∷ ThreadSaid n ∷ CountSaid (decimal_value c) ∷ [])
    (same_Some (decimal_value t) thread g)
    ∙ ap (λ n. NameSaid program ∷ NameSaid report ∷ ThreadSaid thread ∷ CountSaid n ∷ []) (same_Some (decimal_value c) count h)

-- the operands of `resume`
pub resumed : (words : List (List ℕ)) (program report checkpoint : List ℕ) → slice_get words 1 ≡ Some program
    → slice_get words 2 ≡ Some report → slice_get words 3 ≡ Some checkpoint
    → arguments_of (Name ∷ Name ∷ Name ∷ []) (drop 1 words) ≡ NameSaid program ∷ NameSaid report ∷ NameSaid checkpoint ∷ []
resumed [] program report checkpoint e f g = cc
resumed (w ∷ []) program report checkpoint e f g = cc
resumed (w ∷ p ∷ []) program report checkpoint e f g = cc
resumed (w ∷ p ∷ r ∷ []) program report checkpoint e f g = cc
resumed (w ∷ p ∷ r ∷ c ∷ words) program report checkpoint e f g =
    ap (λ n. NameSaid n ∷ NameSaid r ∷ NameSaid c ∷ []) (same_Some p program e)
    ∙ ap (λ n. NameSaid program ∷ NameSaid n ∷ NameSaid c ∷ []) (same_Some r report f)
    ∙ ap (λ n. NameSaid program ∷ NameSaid report ∷ NameSaid n ∷ []) (same_Some c checkpoint g)

-- the options of `vectors`: the lengths and the cores alone are read
pub vector_numbers : (words : List (List ℕ)) (given : Given) → IsReadTo words (form_of Vectors) (length words) given
    → options_given (form_of Vectors) words ≡ numbers_given given
unfolding options_given setting_in
vector_numbers words given h =
    rw (
      given_number words (form_of Vectors) given h Vl,
      given_number words (form_of Vectors) given h Svl,
      given_number words (form_of Vectors) given h Cores,
      h.untaken Slice refl,
      h.untaken Budget refl,
      h.untaken Threads refl,
    ) refl
