-- What the mapping symbols of a source's lines say of each byte of its text: whether an instruction put it.
use Rattle.std.proofs.Common.{◌≡◌, ℕ, suc, ◌+◌, ◌<◌, ◌≤◌, inl, inr, Bool, true, false, not, cond, ◌&&◌, List, [], ◌∷◌, ◌++◌, take, map}
use Rattle.std.proofs.Common.{Option, Some, None, nat_lt, refl, sym, ap, ap₂, ◌∙◌, subst, arith}
use Rattle.std.specs.Prelude.{slice_get, is_none}
use Rattle.std.specs.List.{filter_map, cons_option}
use Rattle.std.proofs.lemmas.Bool.Decides.{nat_tests}
use Rattle.std.proofs.lemmas.Bool.{cases_lt, le-leb, lt-leb}
use Rattle.sm_types.specs.declared.object.Section.{Section}
use Rattle.sm_types.specs.declared.object.Section.TheVariants.{Text, Data}
use Rattle.sm_types.specs.declared.object.Symbol.{Symbol}
use Rattle.sm_types.specs.Objects.{text_address, Mapping, mapping_at, says_in, name_says, symbol_says, mapping_of, mappings_of}
use Rattle.sm_types.specs.Objects.{later_mapping, governing_mapping, mapping_says, is_code, is_same}
use Rattle.asm_parser.specs.Statements.{Says, SourceLine}
use Rattle.asm_core.specs.declared.location_counter.LocationCounter.{LocationCounter}
use Rattle.sm_types.specs.declared.object.Content.{Content}
use Rattle.sm_types.specs.declared.object.Content.TheVariants as content
use Rattle.asm_core.specs.Layout.{here_in, here, grown_in, size_of, counter_after, counter_past, Label, labels_at, address_in}
use Rattle.asm_core.specs.Assembly.{SymbolSaid, symbol_said, label_symbol, label_symbols, puts_code, content_of, fills_in, fills_text, text_is}
use Rattle.asm_core.specs.Assembly.{mapping_name, mapping_symbol, symbols_from}

-- ---- from symbols to mapping symbols

abbrev pub mapping_said : SymbolSaid → Option Mapping
mapping_said s = mapping_at s.address (says_in s.section (name_says s.name))

of_said : (s : Symbol) → mapping_of s ≡ mapping_said (symbol_said s)
unfolding symbol_says
of_said s = refl

mapped_said : (symbols : List Symbol) → filter_map mapping_of symbols ≡ filter_map mapping_said (map symbol_said symbols)
mapped_said [] = refl
mapped_said (s ∷ symbols) = λ i. cons_option (of_said s i) (mapped_said symbols i)

pub mappings_said : (symbols : List Symbol) → mappings_of symbols ≡ filter_map mapping_said (map symbol_said symbols)
unfolding mappings_of
mappings_said symbols = mapped_said symbols

cons_join : (o : Option Mapping) (xs ys : List Mapping) → cons_option o xs ++ ys ≡ cons_option o (xs ++ ys)
cons_join None xs ys = refl
cons_join (Some m) xs ys = refl

mapped_join : (xs ys : List SymbolSaid) → filter_map mapping_said (xs ++ ys) ≡ filter_map mapping_said xs ++ filter_map mapping_said ys
mapped_join [] ys = refl
mapped_join (x ∷ xs) ys =
    ap (cons_option (mapping_said x)) (mapped_join xs ys)
    ∙ sym (cons_join (mapping_said x) (filter_map mapping_said xs) (filter_map mapping_said ys))

code_content : (says : Says) → is_code (content_of says) ≡ puts_code says
unfolding content_of
code_content says =
    elim (puts_code says) as (λ b. is_code (cond b content.Code content.Data) ≡ b) [
      | true ↦ refl
      | false ↦ refl
    ]

abbrev mapping_to : ℕ → Content → Mapping
mapping_to address content = record { address = address; content = content }

-- the mapping symbol of a line: where the text changes between code and data with it
abbrev mapping_if : Bool → ℕ → Content → List Mapping
mapping_if true address content = mapping_to address content ∷ []
mapping_if false address content = []

abbrev line_mapping : LocationCounter → Says → Option Content → List Mapping
line_mapping p says before =
    mapping_if (fills_text p says && not (is_same before (content_of says))) (text_address + p.text_size) (content_of says)

-- the mapping symbols of lines, the first of which stands at a location counter
unfoldable pub mappings_from : LocationCounter → Option Content → List SourceLine → List Mapping
mappings_from p before [] = []
mappings_from p before (line ∷ lines) =
    line_mapping p line.says before ++ mappings_from (counter_after p line.says) (text_is p line.says before) lines

-- a label that has a symbol is no mapping symbol
no_mapping : (section : Section) (address : ℕ) (o : Option Content) → is_none o ≡ true → mapping_at address (says_in section o) ≡ None
no_mapping Text address None e = refl
no_mapping Data address None e = refl
no_mapping section address (Some b) e = cc

no_label_mapping : (tl : ℕ) (l : Label) → filter_map mapping_said (label_symbol tl l) ≡ []
unfolding label_symbol
no_label_mapping tl l =
    let address = address_in tl l.part l.offset in
    elim (is_none (name_says l.name)) as (λ b. is_none (name_says l.name) ≡ b
    → filter_map mapping_said (cond b (record { name = l.name; address = address; section = l.part } ∷ []) []) ≡ []) [
      | true ↦ λ e. ap (λ o. cons_option o []) (no_mapping l.part address (name_says l.name) e)
      | false ↦ λ e. refl
    ] refl

no_labels_mapping : (tl : ℕ) (ls : List Label) → filter_map mapping_said (label_symbols tl ls) ≡ []
unfolding label_symbols
no_labels_mapping tl [] = refl
no_labels_mapping tl (l ∷ ls) =
    mapped_join (label_symbol tl l) (label_symbols tl ls) ∙ ap₂ (λ ms ns. ms ++ ns) (no_label_mapping tl l) (no_labels_mapping tl ls)

named_mapping : (address : ℕ) (c : Content) → mapping_at address (name_says (mapping_name c)) ≡ Some (mapping_to address c)
named_mapping address content.Code = refl
named_mapping address content.Data = refl

text_mapping : (b : Bool) (address : ℕ) (c : Content)
    → filter_map mapping_said (cond b (record { name = mapping_name c; address = address; section = Text } ∷ []) [])
    ≡ mapping_if b address c
text_mapping true address c = ap (λ o. cons_option o []) (named_mapping address c)
text_mapping false address c = refl

symbol_mapping_in : (part : Section) (tl : ℕ) (p : LocationCounter) (size : ℕ) (b : Bool) (c : Content)
    → filter_map mapping_said (cond (fills_in part size && b)
    (record { name = mapping_name c; address = address_in tl part (here_in part p); section = part } ∷ []) [])
    ≡ mapping_if (fills_in part size && b) (text_address + p.text_size) c
symbol_mapping_in Text tl p size b c = text_mapping (fills_in Text size && b) (text_address + p.text_size) c
symbol_mapping_in Data tl p size b c = refl

symbol_mapping : (tl : ℕ) (p : LocationCounter) (says : Says) (before : Option Content)
    → filter_map mapping_said (mapping_symbol tl p says before) ≡ line_mapping p says before
unfolding mapping_symbol fills_text
symbol_mapping tl p says before =
    symbol_mapping_in p.part tl p (size_of says (here p)) (not (is_same before (content_of says))) (content_of says)

-- the mapping symbols of a source's symbols are those of its lines
pub line_mappings_said : (tl : ℕ) (p : LocationCounter) (before : Option Content) (lines : List SourceLine)
    → filter_map mapping_said (symbols_from tl p before lines) ≡ mappings_from p before lines
unfolding symbols_from mappings_from
line_mappings_said tl p before [] = refl
line_mappings_said tl p before (line ∷ lines) =
    mapped_join (label_symbols tl (labels_at p line)) _
    ∙ ap (λ ms. ms ++ filter_map mapping_said
    (mapping_symbol tl p line.says before ++ symbols_from tl (counter_after p line.says) (text_is p line.says before) lines))
    (no_labels_mapping tl (labels_at p line))
    ∙ mapped_join (mapping_symbol tl p line.says before) _
    ∙ (λ i. symbol_mapping tl p line.says before i ++ line_mappings_said tl (counter_after p line.says) (text_is p line.says before) lines
    i)

-- ---- how the text grows

grows_in : (part : Section) (p : LocationCounter) (size : ℕ) → p.text_size ≤ (grown_in part p size).text_size
grows_in Text p size = omega arith
grows_in Data p size = omega arith

text_grows : (p : LocationCounter) (says : Says) → p.text_size ≤ (counter_after p says).text_size
unfolding counter_after
text_grows p says = grows_in p.part p (size_of says (here p))

nothing : (n : ℕ) → nat_lt 0 n ≡ false → n ≡ 0
nothing n e = grind (arith, nat_tests)

-- a line that fills the text stands in it
record Fills (p : LocationCounter) (says : Says) : Type 0 where
  in_text : p.part ≡ Text
  grown : (counter_after p says).text_size ≡ p.text_size + size_of says (here p)

fills_part : (part : Section) (size : ℕ) → fills_in part size ≡ true → part ≡ Text
fills_part Text size e = refl
fills_part Data size e = cc

filled_in : (part : Section) (p : LocationCounter) (size : ℕ) → part ≡ Text → (grown_in part p size).text_size ≡ p.text_size + size
filled_in Text p size e = refl
filled_in Data p size e = cc

filled : (p : LocationCounter) (says : Says) → fills_text p says ≡ true → Fills p says
unfolding fills_text counter_after
filled p says e =
    let t = fills_part p.part (size_of says (here p)) e in record { in_text = t; grown = filled_in p.part p (size_of says (here p)) t }

unfilled_in : (part : Section) (p : LocationCounter) (size : ℕ) → fills_in part size ≡ false
    → (grown_in part p size).text_size ≡ p.text_size
unfilled_in Text p size e = let z : size ≡ 0 = nothing size e in omega arith
unfilled_in Data p size e = refl

unfilled : (p : LocationCounter) (says : Says) → fills_text p says ≡ false → (counter_after p says).text_size ≡ p.text_size
unfolding fills_text counter_after
unfilled p says e = unfilled_in p.part p (size_of says (here p)) e

-- ---- which mapping symbol governs

-- a mapping symbol past an address says nothing of it
passed_over : (a : ℕ) (best : Option Mapping) (m : Mapping) → a < m.address → later_mapping a best m ≡ best
passed_over a None m l = rw (lt-leb m.address a l) refl
passed_over a (Some b) m l = rw (lt-leb m.address a l) refl

over_mapping : (a : ℕ) (best : Option Mapping) (b : Bool) (address : ℕ) (c : Content) (rest : List Mapping) → a < address
    → governing_mapping a best (mapping_if b address c ++ rest) ≡ governing_mapping a best rest
over_mapping a best true address c rest l = ap (λ o. governing_mapping a o rest) (passed_over a best (mapping_to address c) l)
over_mapping a best false address c rest l = refl

-- the mapping symbols of later lines say nothing of an address before them
later_mappings : (lines : List SourceLine) (p : LocationCounter) (before : Option Content) (best : Option Mapping) (a : ℕ)
    → a < text_address + p.text_size
    → governing_mapping a best (mappings_from p before lines) ≡ best
unfolding mappings_from
later_mappings [] p before best a l = refl
later_mappings (line ∷ lines) p before best a l =
    over_mapping a best (fills_text p line.says && not (is_same before (content_of line.says))) (text_address + p.text_size)
    (content_of line.says) (mappings_from (counter_after p line.says) (text_is p line.says before) lines) l
    ∙ later_mappings lines (counter_after p line.says) (text_is p line.says before) best a (let g = text_grows p line.says in omega arith)

-- the mapping symbol so far agrees with what the text is so far
abbrev Agrees : Option Content → Option Mapping → ℕ → Type 0
Agrees None best limit = best ≡ None
Agrees (Some c) best limit = (m : Mapping) × (best ≡ Some m) × (m.content ≡ c) × (m.address ≤ limit)

agrees_further : (before : Option Content) (best : Option Mapping) (m n : ℕ) → m ≤ n → Agrees before best m → Agrees before best n
agrees_further None best m n l h = h
agrees_further (Some c) best m n l h = let low : h.0.address ≤ m = h.3 in (h.0, h.1, h.2, omega arith)

same_content : (before : Option Content) (c : Content) → is_same before c ≡ true → before ≡ Some c
same_content None c e = cc
same_content (Some content.Code) content.Code e = refl
same_content (Some content.Code) content.Data e = cc
same_content (Some content.Data) content.Code e = cc
same_content (Some content.Data) content.Data e = refl

-- a mapping symbol at an address that is not below those so far governs what follows
taken_mapping : (a address : ℕ) (c : Content) (before : Option Content) (best : Option Mapping) → Agrees before best address → address ≤ a
    → later_mapping a best (mapping_to address c) ≡ Some (mapping_to address c)
taken_mapping a address c None best h l =
    ap (λ o. later_mapping a o (mapping_to address c)) h ∙ rw (le-leb address a l) refl
taken_mapping a address c (Some was) best h l =
    ap (λ o. later_mapping a o (mapping_to address c)) h.1
    ∙ rw (le-leb address a l, le-leb h.0.address address h.3) refl

-- the mapping symbol that governs once a line has filled the text agrees with it
record Mapped (a : ℕ) (best : Option Mapping) (mappings rest : List Mapping) (c : Content) (limit : ℕ) : Type 0 where
  now : Option Mapping
  agrees : Agrees (Some c) now limit
  governs : governing_mapping a best (mappings ++ rest) ≡ governing_mapping a now rest

mapped : (a address : ℕ) (c : Content) (before : Option Content) (best : Option Mapping) (rest : List Mapping) (same : Bool)
    → is_same before c ≡ same → Agrees before best address → address ≤ a
    → Mapped a best (mapping_if (not same) address c) rest c address
mapped a address c before best rest true e h l =
    record { now = best; agrees = subst (λ (o : Option Content). Agrees o best address) (same_content before c e) h; governs = refl }
mapped a address c before best rest false e h l = record {
  now = Some (mapping_to address c);
  agrees = (mapping_to address c, refl, refl, omega arith);
  governs = ap (λ o. governing_mapping a o rest) (taken_mapping a address c before best h l);
}

-- ---- the line that put a byte

-- line number k of some lines, the first of which stands at a location counter, put the byte of the text at an offset
pub record Put (p : LocationCounter) (lines : List SourceLine) (offset : ℕ) : Type 0 where
  pub k : ℕ
  pub line : SourceLine
  pub listed : slice_get lines k ≡ Some line
  pub in_text : (counter_past p (take k lines)).part ≡ Text
  pub from : (counter_past p (take k lines)).text_size ≤ offset
  pub to : offset < (counter_past p (take k lines)).text_size + size_of line.says (here (counter_past p (take k lines)))

past_none : (p : LocationCounter) → counter_past p [] ≡ p
unfolding counter_past
past_none p = refl

past_cons : (p : LocationCounter) (line : SourceLine) (lines : List SourceLine)
    → counter_past p (line ∷ lines) ≡ counter_past (counter_after p line.says) lines
unfolding counter_past
past_cons p line lines = refl

first_put : (p : LocationCounter) (line : SourceLine) (lines : List SourceLine) (offset : ℕ) → p.part ≡ Text → p.text_size ≤ offset
    → offset < p.text_size + size_of line.says (here p) → Put p (line ∷ lines) offset
first_put p line lines offset in_text from to = record {
  k = 0;
  line = line;
  listed = refl;
  in_text = subst (λ (q : LocationCounter). q.part ≡ Text) (sym (past_none p)) in_text;
  from = subst (λ (q : LocationCounter). q.text_size ≤ offset) (sym (past_none p)) from;
  to = subst (λ (q : LocationCounter). offset < q.text_size + size_of line.says (here q)) (sym (past_none p)) to;
}

next_put : (p : LocationCounter) (line : SourceLine) (lines : List SourceLine) (offset : ℕ) → Put (counter_after p line.says) lines offset
    → Put p (line ∷ lines) offset
next_put p line lines offset h =
    let same : counter_past (counter_after p line.says) (take h.k lines) ≡ counter_past p (line ∷ take h.k lines) =
    sym (past_cons p line (take h.k lines)) in
    record {
      k = suc h.k;
      line = h.line;
      listed = h.listed;
      in_text = subst (λ (q : LocationCounter). q.part ≡ Text) same h.in_text;
      from = subst (λ (q : LocationCounter). q.text_size ≤ offset) same h.from;
      to = subst (λ (q : LocationCounter). offset < q.text_size + size_of h.line.says (here q)) same h.to;
    }

-- the line that put a byte, and that the mapping symbols say of the byte whether the line is an instruction
pub record Told (p : LocationCounter) (before : Option Content) (best : Option Mapping) (lines : List SourceLine)
    (offset : ℕ) : Type 0 where
  pub put : Put p lines offset
  pub kind : is_code (mapping_says (governing_mapping (text_address + offset) best (mappings_from p before lines)))
      ≡ puts_code put.line.says

text_is-filled : (p : LocationCounter) (says : Says) (before : Option Content) → fills_text p says ≡ true
    → text_is p says before ≡ Some (content_of says)
unfolding text_is
text_is-filled p says before e = rw e refl

text_is-unfilled : (p : LocationCounter) (says : Says) (before : Option Content) → fills_text p says ≡ false
    → text_is p says before ≡ before
unfolding text_is
text_is-unfilled p says before e = rw e refl

mappings_cons : (p : LocationCounter) (before : Option Content) (line : SourceLine) (lines : List SourceLine)
    → mappings_from p before (line ∷ lines) ≡ line_mapping p line.says before
    ++ mappings_from (counter_after p line.says) (text_is p line.says before) lines
unfolding mappings_from
mappings_cons p before line lines = refl

no_counter_left : (p : LocationCounter) (offset : ℕ) → p.text_size ≤ offset → offset < (counter_past p []).text_size → ⊥
unfolding counter_past
no_counter_left p offset from to = omega arith

says_of_agreed : (c : Content) (now : Option Mapping) (limit : ℕ) → Agrees (Some c) now limit → mapping_says now ≡ c
says_of_agreed c now limit h = ap mapping_says h.1 ∙ h.2

-- each byte of the text was put by a line, and the mapping symbols say which
pub told : (lines : List SourceLine) (p : LocationCounter) (before : Option Content) (best : Option Mapping) (offset : ℕ)
    → Agrees before best (text_address + p.text_size) → p.text_size ≤ offset → offset < (counter_past p lines).text_size
    → Told p before best lines offset
unfolding next_put first_put
told [] p before best offset h from to = absurd (no_counter_left p offset from to)
told (line ∷ lines) p before best offset h from to =
    let next = counter_after p line.says in
    let a = text_address + offset in
    let after : offset < (counter_past next lines).text_size =
    subst (λ (q : LocationCounter). offset < q.text_size) (past_cons p line lines) to in
    elim (fills_text p line.says) as (λ b. fills_text p line.says ≡ b → Told p before best (line ∷ lines) offset) [
      | true ↦ λ e.
          let fills = filled p line.says e in
          let c = content_of line.says in
          let rest = mappings_from next (Some c) lines in
          let m = mapped a (text_address + p.text_size) c before best rest (is_same before c) refl h (omega arith) in
          let mappings : mappings_from p before (line ∷ lines) ≡ mapping_if (not (is_same before c)) (text_address + p.text_size) c
          ++ rest =
          mappings_cons p before line lines ∙ (λ i. mapping_if (e i && not (is_same before c)) (text_address + p.text_size) c
          ++ mappings_from next (text_is-filled p line.says before e i) lines) in
          let governs : governing_mapping a best (mappings_from p before (line ∷ lines)) ≡ governing_mapping a m.now rest =
          ap (governing_mapping a best) mappings ∙ m.governs in
          elim (cases_lt offset next.text_size) [
            | inl here_put ↦
                let over : governing_mapping a m.now rest ≡ m.now = later_mappings lines next (Some c) m.now a (omega arith) in
                record {
                  put = first_put p line lines offset fills.in_text from (subst (λ n. offset < n) fills.grown here_put);
                  kind =
                      ap (λ o. is_code (mapping_says o)) (governs ∙ over)
                      ∙ ap is_code (says_of_agreed c m.now (text_address + p.text_size) m.agrees) ∙ code_content line.says;
                }
            | inr past ↦
                let g = text_grows p line.says in
                let t =
                told lines next (Some c) m.now offset
                (agrees_further (Some c) m.now (text_address + p.text_size) (text_address + next.text_size) (omega arith) m.agrees)
                past after in
                record { put = next_put p line lines offset t.put; kind = ap (λ o. is_code (mapping_says o)) governs ∙ t.kind }
          ]
      | false ↦ λ e.
          let same = unfilled p line.says e in
          let t =
          told lines next before best offset (subst (λ n. Agrees before best (text_address + n)) (sym same) h)
          (subst (λ n. n ≤ offset) (sym same) from) after in
          let mappings : mappings_from p before (line ∷ lines) ≡ mappings_from next before lines =
          mappings_cons p before line lines ∙ (λ i. mapping_if (e i && not (is_same before (content_of line.says)))
          (text_address + p.text_size) (content_of line.says) ++ mappings_from next (text_is-unfilled p line.says before e i) lines) in
          record {
            put = next_put p line lines offset t.put;
            kind = ap (λ ms. is_code (mapping_says (governing_mapping a best ms))) mappings
                ∙ t.kind;
          }
    ] refl
