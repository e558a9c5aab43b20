-- Labels that are added to a table, one after another.
use Rattle.std.proofs.Common.{◌≡◌, ◌≢◌, ℕ, map, Bool, true, false, cond, ◌||◌, List, [], ◌∷◌, ◌++◌, Option, Some, None, refl, sym, ap, ◌∙◌, subst}
use Rattle.std.specs.Prelude.{is_some, option_map}
use Rattle.std.specs.Str.{bytes_eq}
use Rattle.std.proofs.lemmas.List.{append_assoc, append-nil}
use Rattle.std.proofs.lemmas.Bool.{or_from, or_right}
use Rattle.asm_core.specs.declared.fault.AsmFault.{AsmFault}
use Rattle.asm_core.specs.declared.fault.AsmFault.TheVariants.{Doubled}
use Rattle.asm_core.specs.declared.labels.Labels.{Labels}
use Rattle.asm_parser.specs.declared.line.Statement.{Statement}
use Rattle.asm_parser.specs.declared.line.Statement.TheVariants as statement
use Rattle.asm_parser.specs.Statements.{says_of}
use Rattle.asm_core.specs.declared.location_counter.LocationCounter.{LocationCounter}
use Rattle.asm_core.specs.Code.{NamedByte, names_said}
use Rattle.asm_core.specs.Layout.{Label, label_named, label_position, label_past}
use Rattle.asm_core.specs.Faults.{is_doubled}
use Rattle.asm_core.specs.Known.{known, Knows, HaveAdded, IsDoubledBy}
use Rattle.asm_core.proofs.Scanning.{knows_more, doubled_name}

some_mapped : (o : Option Label) → is_some o ≡ is_some (option_map label_position o)
some_mapped None = refl
some_mapped (Some l) = refl

named_known : (table : Labels) (list : List Label) (name : List ℕ) → Knows table list
    → is_some (label_named list name) ≡ is_some (known table name)
named_known table list name knows = some_mapped (label_named list name) ∙ ap is_some (sym (knows.each name))

-- ---- no label, and one

pub added_none : (table : Labels) → HaveAdded table table []
unfolding is_doubled
added_none table = λ list knows. (refl, subst (Knows table) (sym (append-nil list)) knows)

pub added_one : (table next : Labels) (l : Label) → is_some (known table l.name) ≡ false
    → ((other : List ℕ) → known next other ≡ cond (bytes_eq l.name other) (Some (label_position l)) (known table other))
    → HaveAdded table next (l ∷ [])
unfolding is_doubled
added_one table next l new told = λ list knows.
    let free : is_some (label_named list l.name) ≡ false = named_known table list l.name knows ∙ new in
    (ap (λ b. b || false) free, knows_more table next list l knows (doubled_name list l.name free) told)

pub doubled_one : (n : ℕ) (table : Labels) (l : Label) → is_some (known table l.name) ≡ true → IsDoubledBy n table (l ∷ []) (Doubled n)
unfolding is_doubled
doubled_one n table l e = λ list knows. (ap (λ b. b || false) (named_known table list l.name knows ∙ e), refl)

-- ---- some labels, and others after them

or_assoc : (a b c : Bool) → (a || (b || c)) ≡ ((a || b) || c)
or_assoc true b c = refl
or_assoc false b c = refl

doubled_append : (list xs ys : List Label) → is_doubled list (xs ++ ys) ≡ (is_doubled list xs || is_doubled (list ++ xs) ys)
unfolding is_doubled
doubled_append list [] ys = ap (λ (l : List Label). is_doubled l ys) (sym (append-nil list))
doubled_append list (x ∷ xs) ys =
    let here = is_some (label_named list x.name) in
    let next = is_doubled (list ++ x ∷ []) xs in
    ap (λ b. here || b) (doubled_append (list ++ x ∷ []) xs ys) ∙ or_assoc here next (is_doubled ((list ++ x ∷ []) ++ xs) ys)
    ∙ ap (λ (l : List Label). (here || next) || is_doubled l ys) (append_assoc list (x ∷ []) xs)

module _ (old middle : Labels) (xs ys : List Label) where
  pub added_more : (new : Labels) → HaveAdded old middle xs → HaveAdded middle new ys → HaveAdded old new (xs ++ ys)
  added_more new h g = λ list knows.
      let first = h list knows in
      let second = g (list ++ xs) first.1 in (
        doubled_append list xs ys ∙ or_from _ _ first.0 second.0,
        subst (Knows new) (append_assoc list xs ys) second.1,
      )

  pub doubled_first : (n : ℕ) (fault : AsmFault) → IsDoubledBy n old xs fault → IsDoubledBy n old (xs ++ ys) fault
  doubled_first n fault h = λ list knows.
      let first = h list knows in
      (doubled_append list xs ys ∙ ap (λ b. b || is_doubled (list ++ xs) ys) first.0, first.1)

  pub doubled_later : (n : ℕ) (fault : AsmFault) → HaveAdded old middle xs → IsDoubledBy n middle ys fault
      → IsDoubledBy n old (xs ++ ys) fault
  doubled_later n fault h g = λ list knows.
      let first = h list knows in
      let second = g (list ++ xs) first.1 in
      (doubled_append list xs ys ∙ or_right (is_doubled list xs) _ second.0, second.1)

-- ---- the names of directives

-- what no `.sme_abi` says brings no name
pub no_names : (s : Statement) → ((column : ℕ) → s ≢ statement.SupportRoutines column) → names_said (says_of s) ≡ []
no_names statement.Empty other = refl
no_names statement.Text other = refl
no_names statement.Data other = refl
no_names (statement.Quad values) other = refl
no_names (statement.Word numbers) other = refl
no_names (statement.Byte numbers) other = refl
no_names (statement.Zero count) other = refl
no_names (statement.Align power) other = refl
no_names (statement.Global name) other = refl
no_names (statement.Instruction word target column) other = refl
no_names (statement.SupportRoutines column) other = absurd (other column refl)
no_names (statement.CallTail column) other = refl

pub added_no_names : (table : Labels) (p : LocationCounter) (s : Statement) → ((column : ℕ) → s ≢ statement.SupportRoutines column)
    → HaveAdded table table (map (label_past p) (names_said (says_of s)))
added_no_names table p s other =
    subst (λ (ns : List NamedByte). HaveAdded table table (map (label_past p) ns)) (sym (no_names s other)) (added_none table)
