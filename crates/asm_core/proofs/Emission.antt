-- What the second pass has put after each line, and at the end.
use Rattle.std.proofs.Common.{◌≡◌, ℕ, zero, suc, ◌+◌, ◌<◌, ◌≤◌, List, [], ◌∷◌, ◌++◌, length, take, drop, map, slice_get, Option, Some}
use Rattle.std.proofs.Common.{None, Ok, refl, sym, ap, ap₂, ◌∙◌, subst, arith, length-append, append_assoc, below_more}
use Rattle.std.proofs.lemmas.List.{append-nil, take_all}
use Rattle.std.proofs.lemmas.Option.{slice_get_within}
use Rattle.sm_types.specs.declared.object.Section.{Section}
use Rattle.sm_types.specs.declared.object.Section.TheVariants.{Text, Data}
use Rattle.asm_parser.specs.Statements.{Says, SourceLine}
use Rattle.asm_parser.specs.Lines.{line_of}
use Rattle.asm_core.specs.declared.fault.AsmFault.{AsmFault}
use Rattle.asm_core.specs.declared.location_counter.LocationCounter.{LocationCounter}
use Rattle.asm_core.specs.declared.object_parts.Parts.{Parts}
use Rattle.asm_core.specs.declared.emit_lines.Emission.{Emission}
use Rattle.sm_types.specs.declared.object.Content.{Content}
use Rattle.asm_core.specs.Source.{said_lines}
use Rattle.asm_core.specs.Layout.{Label, first_counter, here, here_in, grown_in, size_of, counter_after, counter_past, counter_of}
use Rattle.asm_core.specs.Layout.{Names, names_in, labels_at}
use Rattle.asm_core.specs.Faults.{target_fault, targets_fault, labels_after, lines_fault, text_length_of}
use Rattle.asm_core.specs.Limits.{IsInLimits}
use Rattle.asm_core.specs.Assembly.{Puts, SymbolSaid, symbol_said, text_is, label_symbols, mapping_symbol, symbols_from}
use Rattle.asm_core.specs.Parts.{bytes_in, ArePartsOf}
use Rattle.asm_core.specs.Emitted.{other, line_symbols, HaveGrown}
use Rattle.asm_core.proofs.Pieces.{piece_puts, puts_kept}
use Rattle.asm_core.proofs.Accepted.{accepted_first, said_first, limits_after, one_line}

-- ---- lines at a location counter of a list

pub get_next : (ls : List SourceLine) (k : ℕ) (line : SourceLine) (rest : List SourceLine) → drop k ls ≡ line ∷ rest
    → slice_get ls k ≡ Some line
get_next [] zero line rest e = cc
get_next [] (suc k) line rest e = cc
get_next (l ∷ ls) zero line rest e = cc
get_next (l ∷ ls) (suc k) line rest e = get_next ls k line rest e

pub drop_next : (ls : List SourceLine) (k : ℕ) (line : SourceLine) (rest : List SourceLine) → drop k ls ≡ line ∷ rest
    → drop (suc k) ls ≡ rest
drop_next [] zero line rest e = cc
drop_next [] (suc k) line rest e = cc
drop_next (l ∷ ls) zero line rest e = cc
drop_next (l ∷ ls) (suc k) line rest e = drop_next ls k line rest e

counter_next : (p : LocationCounter) (ls : List SourceLine) (k : ℕ) (line : SourceLine) (rest : List SourceLine) → drop k ls ≡ line ∷ rest
    → counter_past p (take (suc k) ls) ≡ counter_after (counter_past p (take k ls)) line.says
unfolding counter_past
counter_next p [] zero line rest e = cc
counter_next p [] (suc k) line rest e = cc
counter_next p (l ∷ ls) zero line rest e = let same : l ≡ line = cc in ap (λ (x : SourceLine). counter_after p x.says) same
counter_next p (l ∷ ls) (suc k) line rest e = counter_next (counter_after p l.says) ls k line rest e

none_left : (ls : List SourceLine) (k : ℕ) → drop k ls ≡ [] → length ls ≤ k
none_left [] k e = omega arith
none_left (l ∷ ls) zero e = cc
none_left (l ∷ ls) (suc k) e = let le = none_left ls k e in omega arith

-- ---- the parts

size_in : (part : Section) (p : LocationCounter) (parts : Parts) → length parts.text_bytes.items ≡ p.text_size
    → length parts.data_bytes.items ≡ p.data_size → length (bytes_in parts part) ≡ here_in part p
size_in Text p parts t d = t
size_in Data p parts t d = d

pub size_here : (p : LocationCounter) (parts : Parts) → length parts.text_bytes.items ≡ p.text_size
    → length parts.data_bytes.items ≡ p.data_size
    → length (bytes_in parts p.part) ≡ here p
size_here p parts t d = size_in p.part p parts t d

-- a part keeps what it has where another grows
any_part : (q part : Section) (old new : Parts) (piece : List ℕ) → bytes_in new part ≡ bytes_in old part ++ piece
    → bytes_in new (other part) ≡ bytes_in old (other part) → (more : List ℕ) × (bytes_in new q ≡ bytes_in old q ++ more)
any_part Text Text old new piece a o = (piece, a)
any_part Text Data old new piece a o = ([], o ∙ sym (append-nil old.text_bytes.items))
any_part Data Text old new piece a o = ([], o ∙ sym (append-nil old.data_bytes.items))
any_part Data Data old new piece a o = (piece, a)

pub record HasSizes (p : LocationCounter) (parts : Parts) : Type 0 where
  pub text : length parts.text_bytes.items ≡ p.text_size
  pub data_part : length parts.data_bytes.items ≡ p.data_size

grown_length : (old new piece : List ℕ) (from size : ℕ) → new ≡ old ++ piece → length old ≡ from → length piece ≡ size
    → length new ≡ from + size
grown_length old new piece from size a f s = ap length a ∙ length-append old piece ∙ ap₂ (λ m n. m + n) f s

sizes_in : (part : Section) (p : LocationCounter) (old new : Parts) (piece : List ℕ) (size : ℕ) → HasSizes p old
    → bytes_in new part ≡ bytes_in old part ++ piece → bytes_in new (other part) ≡ bytes_in old (other part) → length piece ≡ size
    → HasSizes (grown_in part p size) new
sizes_in Text p old new piece size h a o s =
    record {
      text = grown_length old.text_bytes.items new.text_bytes.items piece p.text_size size a h.text s;
      data_part = ap length o
          ∙ h.data_part;
    }
sizes_in Data p old new piece size h a o s =
    record {
      text = ap length o ∙ h.text;
      data_part = grown_length old.data_bytes.items new.data_bytes.items piece p.data_size size a
          h.data_part s;
    }

module _ (T : ℕ) (L : Names) where
  grown_sizes : (p : LocationCounter) (content : Option Content) (line : SourceLine) (old new : Parts) → HasSizes p old
      → HaveGrown T L p content line old new
      → HasSizes (counter_after p line.says) new
  unfolding counter_after
  grown_sizes p content line old new h g =
      let s =
      sizes_in p.part p old new g.bytes.piece (size_of line.says (here p)) h g.bytes.added g.others g.bytes.size in
      record { text = s.text; data_part = s.data_part }

  put_now : (p : LocationCounter) (content : Option Content) (line : SourceLine) (old new : Parts) → HasSizes p old
      → HaveGrown T L p content line old new
      → Puts T L (bytes_in new p.part) p line.says
  put_now p content line old new h g =
      subst (λ (bytes : List ℕ). Puts T L bytes p line.says) (sym g.bytes.added)
      (piece_puts T L p line.says (bytes_in old p.part) g.bytes.piece (size_here p old h.text h.data_part) g.bytes.piece_is)

  put_before : (p : LocationCounter) (content : Option Content) (line : SourceLine) (old new : Parts) (q : LocationCounter) (says : Says)
      → HaveGrown T L p content line old new → Puts T L (bytes_in old q.part) q says → Puts T L (bytes_in new q.part) q says
  put_before p content line old new q says g h =
      let more = any_part q.part p.part old new g.bytes.piece g.bytes.added g.others in
      subst (λ (bytes : List ℕ). Puts T L bytes q says) (sym more.1) (puts_kept T L q says (bytes_in old q.part) more.0 h)

  symbols_next : (p : LocationCounter) (content : Option Content) (line : SourceLine) (rest : List SourceLine) (old new : Parts)
      → HaveGrown T L p content line old new
      → map symbol_said new.symbols.items ++ symbols_from T (counter_after p line.says) (text_is p line.says content) rest
      ≡ map symbol_said old.symbols.items ++ symbols_from T p content (line ∷ rest)
  unfolding symbols_from line_symbols
  symbols_next p content line rest old new g =
      let label = label_symbols T (labels_at p line) in
      let mapping = mapping_symbol T p line.says content in
      let after = symbols_from T (counter_after p line.says) (text_is p line.says content) rest in
      let before = map symbol_said old.symbols.items in
      ap (λ x. x ++ after) g.symbols ∙ append_assoc before (label ++ mapping) after
      ∙ ap (λ x. before ++ x) (append_assoc label mapping after)

  targets_next : (n : ℕ) (p : LocationCounter) (line : SourceLine) (rest : List SourceLine) → target_fault n T L p line.says ≡ None
      → targets_fault (n + 1) T L (counter_after p line.says) rest ≡ targets_fault n T L p (line ∷ rest)
  unfolding targets_fault
  targets_next n p line rest e = rw e refl

  targets_stop : (n : ℕ) (p : LocationCounter) (line : SourceLine) (rest : List SourceLine) (fault : AsmFault)
      → target_fault n T L p line.says ≡ Some fault → targets_fault n T L p (line ∷ rest) ≡ Some fault
  unfolding targets_fault
  targets_stop n p line rest fault e = rw e refl

  -- some lines have been put, and the others follow from number n on
  pub record IsAt (ls : List SourceLine) (texts : List (List ℕ)) (n : ℕ) (e : Emission) : Type 0 where
    pub done : ℕ
    pub known : List Label
    pub rest : drop done ls ≡ said_lines texts
    pub counter : e.counter ≡ counter_of ls done
    pub accepted : lines_fault n e.counter known texts ≡ None
    pub limits : IsInLimits e.counter
    pub sizes : HasSizes e.counter e.parts
    pub puts : (k : ℕ) → k < done → (line : SourceLine) → slice_get ls k ≡ Some line
        → Puts T L (bytes_in e.parts (counter_of ls k).part) (counter_of ls k) line.says
    pub symbols : map symbol_said e.parts.symbols.items
        ++ symbols_from T e.counter e.content (said_lines texts) ≡ symbols_from T first_counter None ls
    pub targets : targets_fault n T L e.counter (said_lines texts) ≡ targets_fault 1 T L first_counter ls

  -- a line is put
  pub at_next : (ls : List SourceLine) (text : List ℕ) (texts : List (List ℕ)) (n : ℕ) (old new : Emission) (line : SourceLine)
      → line_of text ≡ Ok line → IsAt ls (text ∷ texts) n old
      → HaveGrown T L old.counter old.content line old.parts new.parts → new.counter ≡ counter_after old.counter line.says
      → new.content ≡ text_is old.counter line.says old.content
      → target_fault n T L old.counter line.says ≡ None → IsAt ls texts (n + 1) new
  at_next ls text texts n old new line says h g counter content fine =
      let a = accepted_first n old.counter h.known text texts h.accepted in
      let same : a.line ≡ line = one_line text a.line line a.says says in
      let said : said_lines (text ∷ texts) ≡ line ∷ said_lines texts = said_first text texts line says in
      let left : drop h.done ls ≡ line ∷ said_lines texts = h.rest ∙ said in
      let there : counter_of ls (suc h.done) ≡ counter_after old.counter line.says =
      counter_next first_counter ls h.done line (said_lines texts) left
      ∙ ap (λ (p : LocationCounter). counter_after p line.says) (sym h.counter) in
      let P : ℕ → Type 0 =
      λ k. (l : SourceLine) → slice_get ls k ≡ Some l → Puts T L (bytes_in new.parts (counter_of ls k).part) (counter_of ls k) l.says in
      let now : Puts T L (bytes_in new.parts old.counter.part) old.counter line.says =
      put_now old.counter old.content line old.parts new.parts h.sizes g in
      record {
        done = suc h.done;
        known = labels_after old.counter h.known line;
        rest = drop_next ls h.done line (said_lines texts) left;
        counter = counter ∙ sym there;
        accepted = subst (λ (p : LocationCounter). lines_fault (n + 1) p (labels_after old.counter h.known line) texts ≡ None) (sym counter)
            (subst (λ (l : SourceLine). lines_fault (n + 1) (counter_after old.counter l.says) (labels_after old.counter h.known l) texts
            ≡ None)
            same a.rest);
        limits =
            subst IsInLimits (sym counter) (subst (λ (l : SourceLine). IsInLimits (counter_after old.counter l.says)) same
            (limits_after old.counter a.line.says a.fits));
        sizes = subst (λ (p : LocationCounter). HasSizes p new.parts) (sym counter)
            (grown_sizes old.counter old.content line old.parts new.parts h.sizes g);
        puts = λ k lt. below_more P h.done
            (λ j less l is. put_before old.counter old.content line old.parts new.parts (counter_of ls j) l.says g (h.puts j less l is))
            (λ l is.
            let one : line ≡ l = let found = get_next ls h.done line (said_lines texts) left in cc in
            subst (λ (x : SourceLine). Puts T L (bytes_in new.parts (counter_of ls h.done).part) (counter_of ls h.done) x.says) one
            (subst (λ (p : LocationCounter). Puts T L (bytes_in new.parts p.part) p line.says) h.counter now))
            k (omega arith);
        symbols =
            ap₂ (λ (p : LocationCounter) (c : Option Content). map symbol_said new.parts.symbols.items
            ++ symbols_from T p c (said_lines texts)) counter content
            ∙ symbols_next old.counter old.content line (said_lines texts) old.parts new.parts g
            ∙ ap (λ (l : List SourceLine). map symbol_said old.parts.symbols.items ++ symbols_from T old.counter old.content l) (sym said)
            ∙ h.symbols;
        targets =
            ap (λ (p : LocationCounter). targets_fault (n + 1) T L p (said_lines texts)) counter
            ∙ targets_next n old.counter line (said_lines texts) fine
            ∙ ap (λ (l : List SourceLine). targets_fault n T L old.counter l) (sym said) ∙ h.targets;
      }

  -- a line has a fault
  pub at_fault : (ls : List SourceLine) (text : List ℕ) (texts : List (List ℕ)) (n : ℕ) (old : Emission) (line : SourceLine)
      (fault : AsmFault) → line_of text ≡ Ok line → IsAt ls (text ∷ texts) n old
      → target_fault n T L old.counter line.says ≡ Some fault → targets_fault 1 T L first_counter ls ≡ Some fault
  at_fault ls text texts n old line fault says h e =
      sym h.targets ∙ ap (λ (l : List SourceLine). targets_fault n T L old.counter l) (said_first text texts line says)
      ∙ targets_stop n old.counter line (said_lines texts) fault e

  -- before the first line
  pub at_start : (texts : List (List ℕ)) (e : Emission) → lines_fault 1 first_counter [] texts ≡ None → e.parts.text_bytes.items ≡ []
      → e.parts.data_bytes.items ≡ [] → e.parts.symbols.items ≡ [] → e.counter ≡ first_counter → e.content ≡ None
      → IsAt (said_lines texts) texts 1 e
  unfolding counter_past
  at_start texts e accepted text data_part symbols counter content = record {
    done = zero;
    known = [];
    rest = refl;
    counter = counter;
    accepted = subst (λ (p : LocationCounter). lines_fault 1 p [] texts ≡ None) (sym counter) accepted;
    limits = subst IsInLimits (sym counter) (record { text = omega arith; data_part = omega arith });
    sizes =
        record {
          text = ap length text ∙ sym (ap (λ (p : LocationCounter). p.text_size) counter);
          data_part = ap length data_part
              ∙ sym (ap (λ (p : LocationCounter). p.data_size) counter);
        };
    puts = λ k lt. absurd (omega arith);
    symbols =
        ap₂ (λ (x : List SymbolSaid) (y : List SymbolSaid). x ++ y) (ap (map symbol_said) symbols)
        (ap₂ (λ (p : LocationCounter) (c : Option Content). symbols_from T p c (said_lines texts)) counter content);
    targets = ap (λ (p : LocationCounter). targets_fault 1 T L p (said_lines texts)) counter;
  }

  -- after the last line
  pub at_end : (ls : List SourceLine) (n : ℕ) (e : Emission) → T ≡ text_length_of ls → L ≡ names_in ls → IsAt ls [] n e
      → ArePartsOf ls e.parts
  unfolding said_lines symbols_from
  at_end ls n e size labels h =
      let le = none_left ls h.done h.rest in
      let whole : counter_of ls h.done ≡ counter_past first_counter ls = ap (counter_past first_counter) (take_all h.done ls le) in
      let there : e.counter ≡ counter_past first_counter ls = h.counter ∙ whole in
      record {
        text_size = h.sizes.text ∙ ap (λ (p : LocationCounter). p.text_size) there;
        data_size = h.sizes.data_part ∙ ap (λ (p : LocationCounter). p.data_size) there;
        puts = λ k line is.
            subst (λ (l : Names). Puts (text_length_of ls) l (bytes_in e.parts (counter_of ls k).part) (counter_of ls k) line.says)
            labels
            (subst (λ (t : ℕ). Puts t L (bytes_in e.parts (counter_of ls k).part) (counter_of ls k) line.says) size
            (let within = slice_get_within ls k line is in h.puts k (omega arith) line is));
        symbols =
            sym (append-nil (map symbol_said e.parts.symbols.items)) ∙ h.symbols
            ∙ ap (λ (t : ℕ). symbols_from t first_counter None ls) size;
      }

  -- no line had a fault
  pub at_end_fine : (ls : List SourceLine) (n : ℕ) (e : Emission) → IsAt ls [] n e → targets_fault 1 T L first_counter ls ≡ None
  unfolding said_lines targets_fault
  at_end_fine ls n e h = sym h.targets
