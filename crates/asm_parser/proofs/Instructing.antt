-- What the operands of an instruction say is what the grammar has.
use Rattle.std.proofs.Common.{◌≡◌, ℕ, suc, ◌<◌, ◌≤◌, ◌&&◌, Bool, true, false, cond, List, [], ◌∷◌, ◌++◌, Option, Some, None, length}
use Rattle.std.proofs.Common.{take, map, slice_get, refl, sym, ap, ap₂, ◌∙◌, subst, arith, add-one}
use Rattle.std.specs.Prelude.{option_map, is_some}
use Rattle.std.specs.List.{list_any}
use Rattle.std.proofs.lemmas.List.{take-map, map-append, length-map}
use Rattle.std.proofs.Common.{append_assoc}
use Rattle.std.proofs.lemmas.Option.{slice_get-map, same_Some, slice_get_within}
use Rattle.a64_encode.specs.Either.{instruction_of}
use Rattle.insn_text.specs.declared.keywords.TheConstants.{MNEMONICS}
use Rattle.insn_text.specs.declared.item.Shape.{Shape}
use Rattle.asm_tokens.specs.declared.token.Token.{Token}
use Rattle.asm_tokens.specs.declared.token.Lexeme.{Lexeme}
use Rattle.asm_tokens.specs.Characters.{column_at}
use Rattle.asm_tokens.specs.Tokens.{index_in, is_name, is_number_token}
use Rattle.asm_operands.specs.declared.fault.FaultKind.TheVariants.{BadNumber, Extra, BadOperand}
use Rattle.asm_operands.specs.declared.operands.Target.{Target}
use Rattle.asm_operands.specs.Operands.{shapes_of, first_word, furthest, target_of, wants_number, is_whole, kind_at, operand_fault}
use Rattle.asm_operands.specs.Operands.{OperandsSaid, operands_said}
use Rattle.asm_operands.specs.Operands as operands
use Rattle.asm_operands.proofs.Completions.{goes-on, number-goes-on}
use Rattle.asm_operands.proofs.FaultStops.{stops}
use Rattle.asm_operands.proofs.AnyDistance.{IsSaid, is_said}
use Rattle.asm_parser.specs.Statements.{TargetSaid, Says, Nothing, Codes, Instruction, SupportRoutines, CallTail}
use Rattle.asm_parser.specs.Lines.{Tells, further, target_named, target_at, instruction_or_fault, instruction_says}
use Rattle.asm_parser.specs.Grammar.{Written, written, target_written, IsInstruction, IsWritten, IsMeaning, GoesOn, IsWhole, WantsNumber}
use Rattle.asm_parser.specs.Grammar.{IsWhy, StopsAt, IsFirstFault}
use Rattle.asm_parser.proofs.Tied.{Tied, IsStep, tied_same}
use Rattle.asm_parser.proofs.Following.{said_directive, directive_is, listed_name, IsTold, told_further}
use Rattle.asm_parser.proofs.Wants.{get_none, furthest_le, wants_by, whole_by, whole_from, IsRefused, refused}

abbrev toks : List Written → List Token
toks xs = map (λ (t : Written). t.token) xs

-- a token with no text
bare : Token → Written
bare k = record { token = k; text = []; column = 0 }

toks-bare : (ks : List Token) → toks (map bare ks) ≡ ks
unfolding bare
toks-bare [] = refl
toks-bare (k ∷ ks) = ap (λ x. k ∷ x) (toks-bare ks)

toks-front : (n : ℕ) (xs : List Written) (ks : List Token) → toks (take n xs ++ map bare ks) ≡ take n (toks xs) ++ ks
toks-front n xs ks =
    map-append (λ (t : Written). t.token) (take n xs) (map bare ks)
    ∙ ap₂ (λ a b. a ++ b) (sym (take-map (λ (t : Written). t.token) n xs)) (toks-bare ks)

toks-more : (n : ℕ) (xs rest : List Written) → toks (take n xs ++ rest) ≡ take n (toks xs) ++ toks rest
toks-more n xs rest =
    map-append (λ (t : Written). t.token) (take n xs) rest ∙ ap (λ a. a ++ toks rest) (sym (take-map (λ (t : Written). t.token) n xs))

-- ---- after the name of an instruction

module _ (t : Written) (name : ℕ) (named : is_name t.token ≡ true) (listed : index_in MNEMONICS t.text ≡ Some name) where
  -- what the tokens after it say
  After : Says → List Written → Type 0
  After says xs = IsWritten says (t ∷ xs)

  abbrev said : ℕ → List Written → Says
  said word xs = Codes (Instruction word (target_written xs (target_of (shapes_of name) (toks xs)))) t.column

  up : (xs : List Written) (word : ℕ) → first_word (shapes_of name) (toks xs) ≡ Some word → After (said word xs) xs
  unfolding After IsWritten
  up xs word e =
      record { first = t; operands = xs; all = refl; named = named; name = name; listed = listed; takes = e; aims = refl; column_is = refl }

  down_instruction : (word column : ℕ) (target : Option TargetSaid) (xs : List Written) → IsInstruction word target column (t ∷ xs)
      → (v : ℕ) × (first_word (shapes_of name) (toks xs) ≡ Some v) × (said v xs ≡ Codes (Instruction word target) column)
  down_instruction word column target xs j =
      let same : t ≡ j.first = (let e = j.all in cc) in
      let rest : xs ≡ j.operands = (let e = j.all in cc) in
      let name_is : name ≡ j.name = same_Some name j.name (sym listed ∙ ap (λ (u : Written). index_in MNEMONICS u.text) same ∙ j.listed) in
      let aims : target_written xs (target_of (shapes_of name) (toks xs)) ≡ target =
      ap₂ (λ n ys. target_written ys (target_of (shapes_of n) (toks ys))) name_is rest ∙ sym j.aims in
      let column_is : t.column ≡ column = ap (λ (u : Written). u.column) same ∙ sym j.column_is in
      (word, ap₂ (λ n ys. first_word (shapes_of n) (toks ys)) name_is rest ∙ j.takes, ap₂ (λ a c. Codes (Instruction word a) c) aims column_is)

  down : (says : Says) (xs : List Written) → After says xs → (v : ℕ) × (first_word (shapes_of name) (toks xs) ≡ Some v) × (said v xs ≡ says)
  unfolding After IsWritten said_directive
  down Nothing xs h = cc
  down (Codes (Instruction word target) column) xs h = down_instruction word column target xs h
  down (Codes SupportRoutines column) xs h =
      let f = directive_is (Codes SupportRoutines column) t xs h in let g = (listed_name t.text name listed).1 in cc
  down (Codes CallTail column) xs h = let f = directive_is (Codes CallTail column) t xs h in let g = (listed_name t.text name listed).1 in cc
  down says xs h = let f = directive_is says t xs h in let g = (listed_name t.text name listed).1 in cc

  module _ (xs : List Written) where
    abbrev ts : List Token
    ts = toks xs

    abbrev ss : List Shape
    ss = shapes_of name

    abbrev k : ℕ
    k = furthest ss ts

    small : k ≤ length xs
    small = let a = furthest_le ss ts in let b = length-map xs (λ (t : Written). t.token) in omega (arith, a, b)

    goes : GoesOn After (take k xs)
    goes =
        let lt : name < length MNEMONICS = (listed_name t.text name listed).0 in
        let g = goes-on name k ts lt (omega arith) in
        let e : first_word ss (toks (take k xs ++ map bare g.0)) ≡ Some g.1 = ap (first_word ss) (toks-front k xs g.0) ∙ g.2 in
        (map bare g.0, said g.1 (take k xs ++ map bare g.0), up (take k xs ++ map bare g.0) g.1 e)

    faulted : k < length xs → GoesOn After (take (suc k) xs) → ⊥
    faulted lt g =
        let d = down g.1 (take (suc k) xs ++ g.0) g.2 in
        let less : k < length ts = omega (arith, length-map xs (λ (t : Written). t.token)) in
        let none : first_word ss (take (suc k) ts ++ toks g.0) ≡ None =
        ap (λ n. first_word ss (take n ts ++ toks g.0)) (sym (add-one k)) ∙ stops name ts (toks g.0) less in
        let clash : None ≡ Some d.0 = sym none ∙ ap (first_word ss) (sym (toks-more (suc k) xs g.0)) ∙ d.1 in
        cc

    faults_here : (o : Option Written) → slice_get xs k ≡ o → ((w : ℕ) → first_word ss ts ≡ Some w → is_some (instruction_of w) ≡ true → ⊥)
        → StopsAt After IsMeaning xs k o
    faults_here (Some u) is none = faulted (slice_get_within xs k u is)
    faults_here None is none = (
      omega (arith, small, get_none xs k is),
      λ says j m.
          let d = down says xs j in
          none d.0 d.1 (subst IsMeaning (sym d.2) m),
    )

    -- the token is a number, and one is wanted
    wants_back : (u : Written) → is_number_token u.token ≡ true → WantsNumber After (take k xs) → list_any (wants_number k ts) ss ≡ true
    wants_back u n w =
        let d = down w.2.1 ((take k xs ++ w.0 ∷ []) ++ w.2.0) w.2.2 in
        let e : toks ((take k xs ++ w.0 ∷ []) ++ w.2.0) ≡ take k ts ++ w.0.token ∷ toks w.2.0 =
        ap toks (append_assoc (take k xs) (w.0 ∷ []) w.2.0) ∙ toks-more k xs (w.0 ∷ w.2.0) in
        wants_by ss ts w.0.token (toks w.2.0) d.0 w.1 (ap (first_word ss) (sym e) ∙ d.1)

    whole_back : IsWhole After (take k xs) → list_any (is_whole k ts) ss ≡ true
    whole_back w =
        let d = down w.0 (take k xs) w.1 in
        whole_by ss ts d.0 (ap (first_word ss) (take-map (λ (t : Written). t.token) k xs) ∙ d.1)

    whole_on : list_any (is_whole k ts) ss ≡ true → IsWhole After (take k xs)
    whole_on e =
        let w = whole_from ss ts e in
        let f : first_word ss (toks (take k xs)) ≡ Some w.0 = ap (first_word ss) (sym (take-map (λ (t : Written). t.token) k xs)) ∙ w.1 in
        (said w.0 (take k xs), up (take k xs) w.0 f)

    wants_on : list_any (wants_number k ts) ss ≡ true → WantsNumber After (take k xs)
    unfolding bare
    wants_on e =
        let g = number-goes-on name k ts e in
        let us : List Written = take k xs ++ bare g.0 ∷ [] in
        let after : toks (us ++ map bare g.2) ≡ take k ts ++ g.0 ∷ g.2 =
        ap toks (append_assoc (take k xs) (bare g.0 ∷ []) (map bare g.2)) ∙ toks-front k xs (g.0 ∷ g.2) in
        let f : first_word ss (toks (us ++ map bare g.2)) ≡ Some g.3 = ap (first_word ss) after ∙ g.4 in
        (bare g.0, g.1, (map bare g.2, said g.3 (us ++ map bare g.2), up (us ++ map bare g.2) g.3 f))

    why_by : (u : Written) (number wants whole : Bool) → is_number_token u.token ≡ number → list_any (wants_number k ts) ss ≡ wants
        → list_any (is_whole k ts) ss ≡ whole
        → IsWhy After (take k xs) (Some u) (cond (number && wants) BadNumber (cond whole Extra BadOperand))
    why_by u true true whole n w h = (n, wants_on w)
    why_by u true false true n w h = ((λ f v. let g = wants_back u f v in let clash : false ≡ true = sym w ∙ g in cc), whole_on h)
    why_by u true false false n w h = (
      (λ f v. let g = wants_back u f v in let clash : false ≡ true = sym w ∙ g in cc),
      (λ v. let g = whole_back v in let clash : false ≡ true = sym h ∙ g in cc),
    )
    why_by u false wants true n w h = ((λ f v. let clash : false ≡ true = sym n ∙ f in cc), whole_on h)
    why_by u false wants false n w h =
        ((λ f v. let clash : false ≡ true = sym n ∙ f in cc), (λ v. let g = whole_back v in let clash : false ≡ true = sym h ∙ g in cc))

    why_here : (o : Option Written) → IsWhy After (take k xs) o (kind_at ss k ts (option_map (λ (u : Written). u.token) o))
    unfolding kind_at
    why_here None = tt
    why_here (Some u) = why_by u (is_number_token u.token) (list_any (wants_number k ts) ss) (list_any (is_whole k ts) ss) refl refl refl

    refused_fault : (f : operands.Fault) → IsRefused name ts f → IsFirstFault After IsMeaning (IsWhy After) xs f.index f.kind
    unfolding operand_fault
    refused_fault f r =
        let fault : IsFirstFault After IsMeaning (IsWhy After) xs k (kind_at ss k ts (slice_get ts k)) = record {
          goes_on = goes;
          stops = faults_here (slice_get xs k) refl r.none_meant;
          why =
              subst (λ o. IsWhy After (take k xs) (slice_get xs k) (kind_at ss k ts o))
              (sym (slice_get-map (λ (u : Written). u.token) xs k))
              (why_here (slice_get xs k));
        } in
        subst (λ (g : operands.Fault). IsFirstFault After IsMeaning (IsWhy After) xs g.index g.kind) (sym r.fault_is) fault

-- ---- the answer

toks-written : (line : List ℕ) (ls : List Lexeme) → toks (map (written line) ls) ≡ map (λ (l : Lexeme). l.token) ls
toks-written line [] = refl
toks-written line (l ∷ ls) = ap (λ ks. l.token ∷ ks) (toks-written line ls)

target_is : (line : List ℕ) (ls : List Lexeme) (target : Option Target)
    → target_at line ls target ≡ target_written (map (written line) ls) target
target_is line ls None = refl
target_is line ls (Some target) =
    by_index (slice_get ls target.index) ∙ ap (option_map (λ (t : Written). record { name = t.text; operand = target.operand }))
    (sym (slice_get-map (written line) ls target.index))
  where
    by_index : (o : Option Lexeme) → target_named line target.operand o
        ≡ option_map (λ (t : Written). record { name = t.text; operand = target.operand }) (option_map (written line) o)
    by_index None = refl
    by_index (Some l) = refl

module _ (line : List ℕ) (l : Lexeme) (ls : List Lexeme) (name : ℕ) (named : is_name l.token ≡ true)
    (listed : index_in MNEMONICS (written line l).text ≡ Some name) where
  abbrev xs : List Written
  xs = map (written line) ls

  abbrev Here : Says → List Written → Type 0
  Here = After (written line l) name named listed

  abbrev column : ℕ
  column = column_at line l.start

  only : (w : ℕ) (target : Option Target) → first_word (shapes_of name) (toks xs) ≡ Some w → target_of (shapes_of name) (toks xs) ≡ target
      → Codes (Instruction w (target_at line ls target)) column ≡ said (written line l) name named listed w xs
  only w target e f = ap (λ o. Codes (Instruction w o) column) (target_is line ls target ∙ ap (target_written xs) (sym f))

  said_tied : (w : ℕ) (target : Option Target) → IsSaid name (toks xs) w target
      → Tied Here IsMeaning (Tells (Codes (Instruction w (target_at line ls target)) column)) xs
  said_tied w target s =
      let same = only w target s.word s.named in (
        subst (λ says. Here says xs) (sym same) (up (written line l) name named listed xs w s.word),
        s.means,
        λ b h.
            let d = down (written line l) name named listed b xs h in
            let word : w ≡ d.0 = same_Some w d.0 (sym s.word ∙ d.1) in
            same ∙ ap (λ v. said (written line l) name named listed v xs) word ∙ d.2,
      )

  answer_tied : (answer : OperandsSaid) → operands_said name (toks xs) ≡ answer
      → Tied Here IsMeaning (instruction_or_fault line column ls answer) xs
  answer_tied (operands.Says w target) e = said_tied w target (is_said name (toks xs) w target e)
  answer_tied (operands.Fails f) e = refused_fault (written line l) name named listed xs f (refused name (toks xs) f e)

  instruction_tied : Tied Here IsMeaning (instruction_says line name column ls) xs
  unfolding instruction_says
  instruction_tied = answer_tied (operands_said name (map (λ (k : Lexeme). k.token) ls)) (ap (operands_said name) (toks-written line ls))

  instruction_step : IsStep Here IsMeaning IsWritten IsMeaning (written line l) (λ says. says)
  unfolding After
  instruction_step = record { up = λ ys says h. h; down = λ ys says h. (says, h, refl); allowed = λ says m. m; allowed_back = λ says m. m }

  pub instruction_told : IsTold (further 1 (instruction_says line name column ls)) (map (written line) (l ∷ ls))
  instruction_told =
      told_further (instruction_says line name column ls) (written line l) xs
      (tied_same Here IsMeaning IsWritten IsMeaning (written line l) instruction_step (instruction_says line name column ls) xs
      instruction_tied)
