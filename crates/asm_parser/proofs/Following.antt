-- What the tokens of a line say is what the grammar has: directives, instructions and whole lines.
use Rattle.std.proofs.Common.{◌≡◌, ℕ, suc, ◌+◌, ◌-◌, ◌^◌, ◌<◌, ◌==◌, not, Bool, true, false, List, [], ◌∷◌, Option, Some}
use Rattle.std.proofs.Common.{None, length, map, get_or, cond, refl, sym, ap, ◌∙◌, subst}
use Rattle.std.proofs.Common.{arith}
use Rattle.std.specs.Prelude.{codes}
use Rattle.std.specs.List.{list_all, position}
use Rattle.std.proofs.lemmas.Bool.{not-true}
use Rattle.std.specs.Str.{bytes_eq}
use Rattle.std.proofs.lemmas.List.Quantifiers.{position-Some}
use Rattle.std.proofs.lemmas.Option.{same_Some}
use Rattle.plain_lemmas.proofs.Lists.{list_all-get_or, bytes_eq-true}
use Rattle.insn_text.specs.declared.item.Text.{Text}
use Rattle.insn_text.specs.declared.keywords.TheConstants.{MNEMONICS}
use Rattle.insn_text.specs.Texts.{text_in}
use Rattle.asm_tokens.specs.declared.token.Lexeme.{Lexeme}
use Rattle.asm_tokens.specs.Characters.{column_at}
use Rattle.asm_tokens.specs.Tokens.{index_in, is_name}
use Rattle.asm_parser.specs.Statements.{QuadValue, TargetSaid, Says, Nothing, IntoText, IntoData, Quads, Words, Bytes, Zeros, Aligns}
use Rattle.asm_parser.specs.Statements.{Globals, Code, Codes, Instruction, SupportRoutines, CallTail}
use Rattle.asm_parser.specs.Lines.{Answer, Tells, Stops, and_then, further, ends, one_number, one_name, values_from, number_value}
use Rattle.asm_parser.specs.Lines.{quad_value, text_of_lexeme, Directive, TextDirective, DataDirective, QuadDirective, WordDirective}
use Rattle.asm_parser.specs.Lines.{ByteDirective, ZeroDirective, AlignDirective, GlobalDirective, AbiDirective, TailDirective, directive_of, directive_says}
use Rattle.asm_parser.specs.Grammar.{Written, written, IsName, IsNumberTo, IsValue, IsNothing, IsOne, AreListed, Begins, IsAlone}
use Rattle.asm_parser.specs.Grammar.{IsInstruction, IsWritten, IsMeaning, IsWhy, IsFirstFault}
use Rattle.asm_parser.specs.Grammar.{IsLineWhy}
use Rattle.asm_parser.proofs.Names.{undotted}
use Rattle.asm_parser.proofs.Tied.{Always, Tied, IsStep, tied_step, ends_tied, IsThen, number_tied}
use Rattle.asm_parser.proofs.Tied.{numbers_tied, name_tied, values_tied}

-- ---- no instruction is called like a directive

is_undotted : Text → Bool
is_undotted t = not (get_or (text_in (Some t)) 0 0 == 46)

all_undotted : list_all is_undotted MNEMONICS ≡ true
unfolding is_undotted text_in
all_undotted = refl

index_facts : (xs : List Text) (text : List ℕ) (n : ℕ) → list_all is_undotted xs ≡ true
    → position (λ t. bytes_eq (text_in (Some t)) text) xs ≡ Some n → (n < length xs) × ((get_or text 0 0 == 46) ≡ false)
unfolding is_undotted
index_facts [] text n a e = cc
index_facts (x ∷ xs) text n a e =
    let p = position-Some (λ t. bytes_eq (text_in (Some t)) text) (x ∷ xs) n x e in
    let same = bytes_eq-true (text_in (Some (get_or (x ∷ xs) n x))) text p.1 in
    (p.0, ap (λ ys. get_or ys 0 0 == 46) (sym same) ∙ not-true _ (list_all-get_or is_undotted (x ∷ xs) n x a p.0))

-- a name of the table stands in it, and is no directive's
pub listed_name : (text : List ℕ) (n : ℕ) → index_in MNEMONICS text ≡ Some n → (n < length MNEMONICS) × (directive_of text ≡ None)
unfolding index_in
listed_name text n e = let f = index_facts MNEMONICS text n all_undotted e in (f.0, undotted text f.1)

-- ---- which directive the tokens of a statement begin with

unfoldable pub said_directive : Says → Option Directive
said_directive Nothing = None
said_directive IntoText = Some TextDirective
said_directive IntoData = Some DataDirective
said_directive (Quads values) = Some QuadDirective
said_directive (Words numbers) = Some WordDirective
said_directive (Bytes numbers) = Some ByteDirective
said_directive (Zeros count) = Some ZeroDirective
said_directive (Aligns power) = Some AlignDirective
said_directive (Globals name) = Some GlobalDirective
said_directive (Codes (Instruction word target) column) = None
said_directive (Codes SupportRoutines column) = Some AbiDirective
said_directive (Codes CallTail column) = Some TailDirective

begins_text : (name : List ℕ) (Follows : List Written → Type 0) (t : Written) (xs : List Written) → Begins name Follows (t ∷ xs)
    → (t.text ≡ name) × (is_name t.token ≡ true) × Follows xs
begins_text name Follows t xs b =
    let same : b.first ≡ t = (let e = b.all in cc) in
    let rest : b.rest ≡ xs = (let e = b.all in cc) in (
      ap (λ (u : Written). u.text) (sym same) ∙ b.named.1,
      ap (λ (u : Written). is_name u.token) (sym same) ∙ b.named.0,
      subst Follows rest b.follows,
    )

alone_text : (name : List ℕ) (column : ℕ) (t : Written) (xs : List Written) → IsAlone name column (t ∷ xs)
    → (t.text ≡ name) × (is_name t.token ≡ true) × (xs ≡ []) × (column ≡ t.column)
alone_text name column t xs b =
    let same : b.first ≡ t = (let e = b.all in cc) in
    let rest : xs ≡ [] = (let e = b.all in cc) in (
      ap (λ (u : Written). u.text) (sym same) ∙ b.named.1,
      ap (λ (u : Written). is_name u.token) (sym same) ∙ b.named.0,
      rest,
      b.column_is ∙ ap (λ (u : Written). u.column) same,
    )

instruction_text : (word : ℕ) (target : Option TargetSaid) (column : ℕ) (t : Written) (xs : List Written)
    → IsInstruction word target column (t ∷ xs) → directive_of t.text ≡ None
instruction_text word target column t xs h =
    let same : h.first ≡ t = (let e = h.all in cc) in
    ap (λ (u : Written). directive_of u.text) (sym same) ∙ (listed_name h.first.text h.name h.listed).1

pub directive_is : (says : Says) (t : Written) (xs : List Written) → IsWritten says (t ∷ xs) → directive_of t.text ≡ said_directive says
unfolding IsWritten said_directive directive_of
directive_is Nothing t xs h = cc
directive_is IntoText t xs h = ap directive_of (begins_text (codes ".text") IsNothing t xs h).0
directive_is IntoData t xs h = ap directive_of (begins_text (codes ".data") IsNothing t xs h).0
directive_is (Quads values) t xs h = ap directive_of (begins_text (codes ".quad") (AreListed IsValue values) t xs h).0
directive_is (Words numbers) t xs h = ap directive_of (begins_text (codes ".word") (AreListed (IsNumberTo (2 ^ 32 - 1)) numbers) t xs h).0
directive_is (Bytes numbers) t xs h = ap directive_of (begins_text (codes ".byte") (AreListed (IsNumberTo 255) numbers) t xs h).0
directive_is (Zeros count) t xs h = ap directive_of (begins_text (codes ".zero") (IsOne (IsNumberTo (2 ^ 64 - 1)) count) t xs h).0
directive_is (Aligns power) t xs h = ap directive_of (begins_text (codes ".align") (IsOne (IsNumberTo 12) power) t xs h).0
directive_is (Globals name) t xs h = ap directive_of (begins_text (codes ".global") (IsOne IsName name) t xs h).0
directive_is (Codes (Instruction word target) column) t xs h = instruction_text word target column t xs h
directive_is (Codes SupportRoutines column) t xs h = ap directive_of (alone_text (codes ".sme_abi") column t xs h).0
directive_is (Codes CallTail column) t xs h = ap directive_of (alone_text (codes ".sme_tail") column t xs h).0

-- the first token of a statement is a name
pub leads_name : (says : Says) (t : Written) (xs : List Written) → IsWritten says (t ∷ xs) → is_name t.token ≡ true
unfolding IsWritten
leads_name Nothing t xs h = cc
leads_name IntoText t xs h = (begins_text (codes ".text") IsNothing t xs h).1
leads_name IntoData t xs h = (begins_text (codes ".data") IsNothing t xs h).1
leads_name (Quads values) t xs h = (begins_text (codes ".quad") (AreListed IsValue values) t xs h).1
leads_name (Words numbers) t xs h = (begins_text (codes ".word") (AreListed (IsNumberTo (2 ^ 32 - 1)) numbers) t xs h).1
leads_name (Bytes numbers) t xs h = (begins_text (codes ".byte") (AreListed (IsNumberTo 255) numbers) t xs h).1
leads_name (Zeros count) t xs h = (begins_text (codes ".zero") (IsOne (IsNumberTo (2 ^ 64 - 1)) count) t xs h).1
leads_name (Aligns power) t xs h = (begins_text (codes ".align") (IsOne (IsNumberTo 12) power) t xs h).1
leads_name (Globals name) t xs h = (begins_text (codes ".global") (IsOne IsName name) t xs h).1
leads_name (Codes (Instruction word target) column) t xs h =
    let same : h.first ≡ t = (let e = h.all in cc) in ap (λ (u : Written). is_name u.token) (sym same) ∙ h.named
leads_name (Codes SupportRoutines column) t xs h = (alone_text (codes ".sme_abi") column t xs h).1
leads_name (Codes CallTail column) t xs h = (alone_text (codes ".sme_tail") column t xs h).1

-- ---- directives

-- the name of a directive
spelled : Directive → List ℕ
spelled TextDirective = codes ".text"
spelled DataDirective = codes ".data"
spelled QuadDirective = codes ".quad"
spelled WordDirective = codes ".word"
spelled ByteDirective = codes ".byte"
spelled ZeroDirective = codes ".zero"
spelled AlignDirective = codes ".align"
spelled GlobalDirective = codes ".global"
spelled AbiDirective = codes ".sme_abi"
spelled TailDirective = codes ".sme_tail"

by_test : {A : Type 0} (name text : List ℕ) (a d : A) (rest : Option A) → (P : A → Type 0) → (name ≡ text → P a) → (rest ≡ Some d → P d)
    → cond (bytes_eq name text) (Some a) rest ≡ Some d → P d
by_test name text a d rest P f g e =
    elim (bytes_eq name text) as (λ b. bytes_eq name text ≡ b → cond b (Some a) rest ≡ Some d → P d) [
      | true ↦ λ is h. subst P (same_Some a d h) (f (bytes_eq-true name text is))
      | false ↦ λ is h. g h
    ] refl e

directive_spelled : (name : List ℕ) (d : Directive) → directive_of name ≡ Some d → name ≡ spelled d
unfolding directive_of spelled
directive_spelled name d =
    let P : Directive → Type 0 = λ x. name ≡ spelled x in
    by_test name (codes ".text") TextDirective d _ P (λ e. e)
    (by_test name (codes ".data") DataDirective d _ P (λ e. e)
    (by_test name (codes ".quad") QuadDirective d _ P (λ e. e)
    (by_test name (codes ".word") WordDirective d _ P (λ e. e)
    (by_test name (codes ".byte") ByteDirective d _ P (λ e. e)
    (by_test name (codes ".zero") ZeroDirective d _ P (λ e. e)
    (by_test name (codes ".align") AlignDirective d _ P (λ e. e)
    (by_test name (codes ".global") GlobalDirective d _ P (λ e. e)
    (by_test name (codes ".sme_abi") AbiDirective d _ P (λ e. e)
    (by_test name (codes ".sme_tail") TailDirective d _ P (λ e. e) (λ e. cc))))))))))

-- what follows the name of a directive, its first token, of the value that it makes a statement of
record IsMade {A : Type 0} (t : Written) (d : Directive) (make : A → Says) (Follows : A → List Written → Type 0) : Type 0 where
  up : (xs : List Written) (a : A) → is_name t.token ≡ true → t.text ≡ spelled d → Follows a xs → IsWritten (make a) (t ∷ xs)
  down : (says : Says) (xs : List Written) → said_directive says ≡ Some d → IsWritten says (t ∷ xs) → (a : A) × Follows a xs
      × (make a ≡ says)
  meaning : (a : A) → IsMeaning (make a)

begin : (name : List ℕ) (Follows : List Written → Type 0) (t : Written) (xs : List Written) → is_name t.token ≡ true → t.text ≡ name
    → Follows xs → Begins name Follows (t ∷ xs)
begin name Follows t xs n s f = record { first = t; rest = xs; all = refl; named = (n, s); follows = f }

-- the directives that put code, and that the others do not
unfoldable for_code : Directive → Bool
for_code AbiDirective = true
for_code TailDirective = true
for_code d = false

no_code : (code : Code) (column : ℕ) (d : Directive) → said_directive (Codes code column) ≡ Some d → for_code d ≡ false → ⊥
unfolding said_directive for_code
no_code (Instruction word target) column d e f = cc
no_code SupportRoutines column d e f =
    let clash : true ≡ false = ap for_code (same_Some AbiDirective d e) ∙ f in cc
no_code CallTail column d e f =
    let clash : true ≡ false = ap for_code (same_Some TailDirective d e) ∙ f in cc

text_down : (says : Says) (t : Written) (xs : List Written) → said_directive says ≡ Some TextDirective → IsWritten says (t ∷ xs)
    → (a : Unit {0}) × IsThen (tt {0}) a xs × (IntoText ≡ says)
unfolding IsWritten said_directive for_code
text_down IntoText t xs e h = (tt, (refl, (begins_text (codes ".text") IsNothing t xs h).2), refl)
text_down (Codes code column) t xs e h = absurd (no_code code column TextDirective e refl)
text_down says t xs e h = cc

text_made : (t : Written) → IsMade t TextDirective (λ u. IntoText) (IsThen (tt {0}))
unfolding IsWritten spelled
text_made t = record { up = λ xs a n s f. begin (codes ".text") IsNothing t xs n s f.1; down = λ says xs e h. text_down says t xs e h; meaning = λ a. tt }

data_down : (says : Says) (t : Written) (xs : List Written) → said_directive says ≡ Some DataDirective → IsWritten says (t ∷ xs)
    → (a : Unit {0}) × IsThen (tt {0}) a xs × (IntoData ≡ says)
unfolding IsWritten said_directive for_code
data_down IntoData t xs e h = (tt, (refl, (begins_text (codes ".data") IsNothing t xs h).2), refl)
data_down (Codes code column) t xs e h = absurd (no_code code column DataDirective e refl)
data_down says t xs e h = cc

data_made : (t : Written) → IsMade t DataDirective (λ u. IntoData) (IsThen (tt {0}))
unfolding IsWritten spelled
data_made t = record { up = λ xs a n s f. begin (codes ".data") IsNothing t xs n s f.1; down = λ says xs e h. data_down says t xs e h; meaning = λ a. tt }

quad_down : (says : Says) (t : Written) (xs : List Written) → said_directive says ≡ Some QuadDirective → IsWritten says (t ∷ xs)
    → (a : List QuadValue) × AreListed IsValue a xs × (Quads a ≡ says)
unfolding IsWritten said_directive for_code
quad_down (Quads values) t xs e h = (values, (begins_text (codes ".quad") (AreListed IsValue values) t xs h).2, refl)
quad_down (Codes code column) t xs e h = absurd (no_code code column QuadDirective e refl)
quad_down says t xs e h = cc

quad_made : (t : Written) → IsMade t QuadDirective Quads (AreListed IsValue)
unfolding IsWritten spelled
quad_made t = record { up = λ xs a n s f. begin (codes ".quad") (AreListed IsValue a) t xs n s f; down = λ says xs e h. quad_down says t xs e h; meaning = λ a. tt }

word_down : (says : Says) (t : Written) (xs : List Written) → said_directive says ≡ Some WordDirective → IsWritten says (t ∷ xs)
    → (a : List ℕ) × AreListed (IsNumberTo (2 ^ 32 - 1)) a xs × (Words a ≡ says)
unfolding IsWritten said_directive for_code
word_down (Words numbers) t xs e h = (numbers, (begins_text (codes ".word") (AreListed (IsNumberTo (2 ^ 32 - 1)) numbers) t xs h).2, refl)
word_down (Codes code column) t xs e h = absurd (no_code code column WordDirective e refl)
word_down says t xs e h = cc

word_made : (t : Written) → IsMade t WordDirective Words (AreListed (IsNumberTo (2 ^ 32 - 1)))
unfolding IsWritten spelled
word_made t =
    record {
      up = λ xs a n s f. begin (codes ".word") (AreListed (IsNumberTo (2 ^ 32 - 1)) a) t xs n s f;
      down = λ says xs e h. word_down says t xs e h;
      meaning = λ a. tt;
    }

byte_down : (says : Says) (t : Written) (xs : List Written) → said_directive says ≡ Some ByteDirective → IsWritten says (t ∷ xs)
    → (a : List ℕ) × AreListed (IsNumberTo 255) a xs × (Bytes a ≡ says)
unfolding IsWritten said_directive for_code
byte_down (Bytes numbers) t xs e h = (numbers, (begins_text (codes ".byte") (AreListed (IsNumberTo 255) numbers) t xs h).2, refl)
byte_down (Codes code column) t xs e h = absurd (no_code code column ByteDirective e refl)
byte_down says t xs e h = cc

byte_made : (t : Written) → IsMade t ByteDirective Bytes (AreListed (IsNumberTo 255))
unfolding IsWritten spelled
byte_made t =
    record { up = λ xs a n s f. begin (codes ".byte") (AreListed (IsNumberTo 255) a) t xs n s f; down = λ says xs e h. byte_down says t xs e h; meaning = λ a. tt }

zero_down : (says : Says) (t : Written) (xs : List Written) → said_directive says ≡ Some ZeroDirective → IsWritten says (t ∷ xs) → (a : ℕ)
    × IsOne (IsNumberTo (2 ^ 64 - 1)) a xs × (Zeros a ≡ says)
unfolding IsWritten said_directive for_code
zero_down (Zeros count) t xs e h = (count, (begins_text (codes ".zero") (IsOne (IsNumberTo (2 ^ 64 - 1)) count) t xs h).2, refl)
zero_down (Codes code column) t xs e h = absurd (no_code code column ZeroDirective e refl)
zero_down says t xs e h = cc

zero_made : (t : Written) → IsMade t ZeroDirective Zeros (IsOne (IsNumberTo (2 ^ 64 - 1)))
unfolding IsWritten spelled
zero_made t =
    record {
      up = λ xs a n s f. begin (codes ".zero") (IsOne (IsNumberTo (2 ^ 64 - 1)) a) t xs n s f;
      down = λ says xs e h. zero_down says t xs e h;
      meaning = λ a. tt;
    }

align_down : (says : Says) (t : Written) (xs : List Written) → said_directive says ≡ Some AlignDirective → IsWritten says (t ∷ xs) → (a : ℕ)
    × IsOne (IsNumberTo 12) a xs × (Aligns a ≡ says)
unfolding IsWritten said_directive for_code
align_down (Aligns power) t xs e h = (power, (begins_text (codes ".align") (IsOne (IsNumberTo 12) power) t xs h).2, refl)
align_down (Codes code column) t xs e h = absurd (no_code code column AlignDirective e refl)
align_down says t xs e h = cc

align_made : (t : Written) → IsMade t AlignDirective Aligns (IsOne (IsNumberTo 12))
unfolding IsWritten spelled
align_made t =
    record { up = λ xs a n s f. begin (codes ".align") (IsOne (IsNumberTo 12) a) t xs n s f; down = λ says xs e h. align_down says t xs e h; meaning = λ a. tt }

global_down : (says : Says) (t : Written) (xs : List Written) → said_directive says ≡ Some GlobalDirective → IsWritten says (t ∷ xs)
    → (a : List ℕ) × IsOne IsName a xs × (Globals a ≡ says)
unfolding IsWritten said_directive for_code
global_down (Globals name) t xs e h = (name, (begins_text (codes ".global") (IsOne IsName name) t xs h).2, refl)
global_down (Codes code column) t xs e h = absurd (no_code code column GlobalDirective e refl)
global_down says t xs e h = cc

global_made : (t : Written) → IsMade t GlobalDirective Globals (IsOne IsName)
unfolding IsWritten spelled
global_made t = record { up = λ xs a n s f. begin (codes ".global") (IsOne IsName a) t xs n s f; down = λ says xs e h. global_down says t xs e h; meaning = λ a. tt }

alone : (name : List ℕ) (t : Written) (xs : List Written) → is_name t.token ≡ true → t.text ≡ name → xs ≡ [] → IsAlone name t.column (t ∷ xs)
alone name t xs n s e = record { first = t; all = ap (λ ys. t ∷ ys) e; named = (n, s); column_is = refl }

abi_down : (says : Says) (t : Written) (xs : List Written) → said_directive says ≡ Some AbiDirective → IsWritten says (t ∷ xs)
    → (a : Unit {0}) × IsThen (tt {0}) a xs × (Codes SupportRoutines t.column ≡ says)
unfolding IsWritten said_directive
abi_down (Codes SupportRoutines column) t xs e h =
    let a = alone_text (codes ".sme_abi") column t xs h in (tt, (refl, a.2), ap (Codes SupportRoutines) (sym a.3))
abi_down (Codes (Instruction word target) column) t xs e h = cc
abi_down (Codes CallTail column) t xs e h = cc
abi_down says t xs e h = cc

abi_made : (t : Written) → IsMade t AbiDirective (λ u. Codes SupportRoutines t.column) (IsThen (tt {0}))
unfolding IsWritten spelled
abi_made t =
    record { up = λ xs a n s f. alone (codes ".sme_abi") t xs n s f.1; down = λ says xs e h. abi_down says t xs e h; meaning = λ a. tt }

tail_down : (says : Says) (t : Written) (xs : List Written) → said_directive says ≡ Some TailDirective → IsWritten says (t ∷ xs)
    → (a : Unit {0}) × IsThen (tt {0}) a xs × (Codes CallTail t.column ≡ says)
unfolding IsWritten said_directive
tail_down (Codes CallTail column) t xs e h =
    let a = alone_text (codes ".sme_tail") column t xs h in (tt, (refl, a.2), ap (Codes CallTail) (sym a.3))
tail_down (Codes (Instruction word target) column) t xs e h = cc
tail_down (Codes SupportRoutines column) t xs e h = cc
tail_down says t xs e h = cc

tail_made : (t : Written) → IsMade t TailDirective (λ u. Codes CallTail t.column) (IsThen (tt {0}))
unfolding IsWritten spelled
tail_made t =
    record { up = λ xs a n s f. alone (codes ".sme_tail") t xs n s f.1; down = λ says xs e h. tail_down says t xs e h; meaning = λ a. tt }

-- ---- whole lines

-- an answer is what the grammar of lines has
abbrev pub IsTold : Answer Says → List Written → Type 0
IsTold (Tells says) ts = IsWritten says ts × IsMeaning says × ((other : Says) → IsWritten other ts → says ≡ other)
IsTold (Stops index kind) ts = IsFirstFault IsWritten IsMeaning IsLineWhy ts index kind

-- past the first token no name leads a line
pub told_further : (answer : Answer Says) (t : Written) (xs : List Written) → Tied IsWritten IsMeaning (further 1 answer) (t ∷ xs)
    → IsTold (further 1 answer) (t ∷ xs)
told_further (Tells says) t xs h = h
told_further (Stops index kind) t xs h =
    let e : 1 + index ≡ suc index = omega arith in
    let f = subst (λ n. IsFirstFault IsWritten IsMeaning (IsWhy IsWritten) (t ∷ xs) n kind) e h in
    let g : IsFirstFault IsWritten IsMeaning IsLineWhy (t ∷ xs) (suc index) kind =
    record { goes_on = f.goes_on; stops = f.stops; why = f.why } in
    subst (λ n. IsFirstFault IsWritten IsMeaning IsLineWhy (t ∷ xs) n kind) (sym e) g

module _ {A : Type 0} (d : Directive) (make : A → Says) (Follows : A → List Written → Type 0) (t : Written)
    (m : IsMade t d make Follows) (named : is_name t.token ≡ true) (is : directive_of t.text ≡ Some d) where
  made_step : IsStep Follows Always IsWritten IsMeaning t make
  made_step = record {
    up = λ xs a f. m.up xs a named (directive_spelled t.text d is) f;
    down = λ xs says h. m.down says xs (sym (directive_is says t xs h) ∙ is) h;
    allowed = λ a p. m.meaning a;
    allowed_back = λ a p. tt;
  }

  made_told : (answer : Answer A) (xs : List Written) → Tied Follows Always answer xs → IsTold (further 1 (and_then make answer)) (t ∷ xs)
  made_told answer xs h =
      told_further (and_then make answer) t xs (tied_step Follows Always IsWritten IsMeaning t make made_step answer xs h)

ends_made : (says : Says) (ls : List Lexeme) → and_then (λ (u : Unit {0}). says) (ends (tt {0}) ls) ≡ ends says ls
unfolding ends
ends_made says [] = refl
ends_made says (l ∷ ls) = refl

pub directive_told : (line : List ℕ) (l : Lexeme) (ls : List Lexeme) (d : Directive) → is_name l.token ≡ true
    → directive_of (text_of_lexeme line l) ≡ Some d
    → IsTold (further 1 (directive_says line (column_at line l.start) d ls)) (map (written line) (l ∷ ls))
unfolding directive_says
directive_told line l ls TextDirective n e =
    subst (λ a. IsTold (further 1 a) (written line l ∷ map (written line) ls)) (ends_made IntoText ls)
    (made_told TextDirective (λ u. IntoText) (IsThen (tt {0})) (written line l) (text_made (written line l)) n e (ends (tt {0}) ls) (map (written line) ls)
    (ends_tied (tt {0}) line ls))
directive_told line l ls DataDirective n e =
    subst (λ a. IsTold (further 1 a) (written line l ∷ map (written line) ls)) (ends_made IntoData ls)
    (made_told DataDirective (λ u. IntoData) (IsThen (tt {0})) (written line l) (data_made (written line l)) n e (ends (tt {0}) ls) (map (written line) ls)
    (ends_tied (tt {0}) line ls))
directive_told line l ls QuadDirective n e =
    made_told QuadDirective Quads (AreListed IsValue) (written line l) (quad_made (written line l)) n e (values_from (quad_value line) true ls)
    (map (written line) ls) (values_tied line ls)
directive_told line l ls WordDirective n e =
    made_told WordDirective Words (AreListed (IsNumberTo (2 ^ 32 - 1))) (written line l) (word_made (written line l)) n e
    (values_from (number_value (2 ^ 32 - 1)) true ls) (map (written line) ls) (numbers_tied (2 ^ 32 - 1) line ls)
directive_told line l ls ByteDirective n e =
    made_told ByteDirective Bytes (AreListed (IsNumberTo 255)) (written line l) (byte_made (written line l)) n e (values_from (number_value 255) true ls)
    (map (written line) ls) (numbers_tied 255 line ls)
directive_told line l ls ZeroDirective n e =
    made_told ZeroDirective Zeros (IsOne (IsNumberTo (2 ^ 64 - 1))) (written line l) (zero_made (written line l)) n e (one_number (2 ^ 64 - 1) ls)
    (map (written line) ls) (number_tied (2 ^ 64 - 1) line ls)
directive_told line l ls AlignDirective n e =
    made_told AlignDirective Aligns (IsOne (IsNumberTo 12)) (written line l) (align_made (written line l)) n e (one_number 12 ls) (map (written line) ls)
    (number_tied 12 line ls)
directive_told line l ls GlobalDirective n e =
    made_told GlobalDirective Globals (IsOne IsName) (written line l) (global_made (written line l)) n e (one_name line ls) (map (written line) ls)
    (name_tied line ls)
directive_told line l ls AbiDirective n e =
    let said = Codes SupportRoutines (column_at line l.start) in
    subst (λ a. IsTold (further 1 a) (written line l ∷ map (written line) ls)) (ends_made said ls)
    (made_told AbiDirective (λ u. said) (IsThen (tt {0})) (written line l) (abi_made (written line l)) n e (ends (tt {0}) ls)
    (map (written line) ls) (ends_tied (tt {0}) line ls))
directive_told line l ls TailDirective n e =
    let said = Codes CallTail (column_at line l.start) in
    subst (λ a. IsTold (further 1 a) (written line l ∷ map (written line) ls)) (ends_made said ls)
    (made_told TailDirective (λ u. said) (IsThen (tt {0})) (written line l) (tail_made (written line l)) n e (ends (tt {0}) ls)
    (map (written line) ls) (ends_tied (tt {0}) line ls))
