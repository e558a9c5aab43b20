-- What is read is in the format, and where the blocks of a report stand.
use Rattle.std.proofs.Common.{◌≡◌, ℕ, zero, suc, ◌+◌, ◌-◌, ◌/◌, ◌≤◌, min, nat_lt, cond, Bool, true, false, List, [], ◌∷◌, ◌++◌, length, map, replicate, Option, Some, None, Result, Ok, Err, refl, sym, ap, ◌∙◌, arith, subst, append_assoc, length-append}
use Rattle.std.specs.Prelude.{codes, is_some, IfOk}
use Rattle.std.specs.List.{AllByRecursion, All}
use Rattle.std.specs.Str.{bytes_eq}
use Rattle.std.proofs.lemmas.Bool.{ltb-false}
use Rattle.std.proofs.lemmas.List.Elements.{All-from_recursion}
use Rattle.std.proofs.lemmas.List.{append-nil, length-replicate}
use Rattle.plain_lemmas.proofs.Lists.{bytes_eq-true}
use Rattle.sm_types.specs.declared.shared_op.Event.{Event}
use Rattle.sm_types.specs.declared.numbers.Numbers.{Numbers}
use Rattle.sm_types.specs.declared.version.Version.{Version}
use Rattle.line_reader.specs.Lines.{lines_of, words_of, is_ended}
use Rattle.line_reader.specs.Fields.{said_by, named}
use Rattle.line_reader.specs.Reading.{Left, each, said_if, next_line, first_said, past_all, nothing_of}
use Rattle.text_lines.specs.Forms.{state_lines}
use Rattle.report_reader.specs.Reading.{Fault, line, line_by}
use Rattle.report_reader.specs.Stops.{stop_line}
use Rattle.report_reader.specs.Events.{number_line, is_thread, event_line, setting_line}
use Rattle.report_reader.specs.Header.{version_line, options_line, image_line}
use Rattle.report_reader.specs.Block as spec
use Rattle.report_reader.specs.Block.{Block, block, lines_of_kinds}
use Rattle.report_reader.specs.Report.{Report, SharedWords, report_lines, report_in, all_lines, outcome, shared_words, nothing, word_lines, part_at_end}
use Rattle.report_reader.specs.Grammar.{IsBlock, AreBlocks, AreWords, AreReport, IsReportOf, bytes_in}
use Rattle.report_reader.specs.Told.{block_said, report_said, Answers, StandsIn}
use Rattle.report_reader.specs.declared.block.Head.{Head}
use Rattle.report_reader.specs.declared.fault.ReportKind.TheVariants as part
use Rattle.report_reader.specs.declared.fault.ReportFault.{ReportFault}
use Rattle.report_reader.specs.declared.parts.ReportBlock.{ReportBlock}
use Rattle.report_reader.specs.declared.parts.Report as told
use Rattle.report_reader.proofs.Passing.{Passed, passed_none, passed_then, bytes-append, bytes_of_text, read_is, split, one_line, one_by, kinds_read, out_read, each_read, next_said, AreSaid}

-- ---- an empty line says nothing

no_number : (name : List ℕ) → number_line name [] ≡ None
unfolding number_line said_by named words_of is_ended
no_number name = refl

no_thread : (thread : ℕ) → is_thread thread [] ≡ false
unfolding is_thread number_line said_by named words_of is_ended
no_thread thread = refl

no_stop : stop_line [] ≡ None
unfolding stop_line said_by named words_of is_ended
no_stop = refl

no_event : event_line [] ≡ None
unfolding event_line said_by named words_of is_ended
no_event = refl

no_options : (version : Version) → options_line version [] ≡ None
unfolding options_line said_by named words_of is_ended
no_options version = refl

no_image : image_line [] ≡ None
unfolding image_line said_by named words_of is_ended
no_image = refl

no_version : version_line [] ≡ None
unfolding version_line
no_version = refl

-- ---- a block

-- a thread's heading, stop and count are between two places
record IsHead (thread : ℕ) (left after : Left) (head : Head) : Type 0 where
  heading : List ℕ
  stopping : List ℕ
  counting : List ℕ
  passed : Passed left after (heading ∷ stopping ∷ counting ∷ [])
  is_heading : is_thread thread heading ≡ true
  is_stop : stop_line stopping ≡ Some head.stop
  is_count : number_line (codes "count") counting ≡ Some head.count

head_read : (thread : ℕ) (left : Left) (head : Head) (after : Left) → spec.head thread left ≡ Ok (head, after) → IsHead thread left after head
unfolding spec.head
head_read thread left head after e =
    let t = split (line part.Block (λ text. said_if (is_thread thread text)) left) _ head after e in
    let s = split (line part.Block stop_line t.mid) _ head after t.second in
    let c = split (line part.Block (number_line (codes "count")) s.mid) _ head after s.second in
    let heading = one_by part.Block (is_thread thread) left t.value t.mid (no_thread thread) t.first in
    let stopping = one_line part.Block stop_line t.mid s.value s.mid no_stop s.first in
    let counting = one_line part.Block (number_line (codes "count")) s.mid c.value c.mid (no_number (codes "count")) c.first in
    let last = read_is (record { stop = s.value; count = c.value }) head c.mid after c.second in
    subst (λ l. IsHead thread left l head) last.1
    (record {
      heading = heading.text;
      stopping = stopping.text;
      counting = counting.text;
      passed = passed_then heading.passed (passed_then stopping.passed counting.passed);
      is_heading = heading.holds;
      is_stop = stopping.said ∙ ap (λ (h : Head). Some h.stop) last.0;
      is_count = counting.said ∙ ap (λ (h : Head). Some h.count) last.0;
    })

-- the lines of a journal, and the end of a block
record IsJournal (left after : Left) (journal : List Event) : Type 0 where
  listing : List ℕ
  events : List (List ℕ)
  ending : List ℕ
  passed : Passed left after (listing ∷ (events ++ ending ∷ []))
  is_listing : number_line (codes "journal") listing ≡ Some (length journal)
  are_events : map event_line events ≡ map (λ event. Some event) journal
  is_end : ending ≡ codes "end-thread\n"

journal_read : (left : Left) (journal : List Event) (after : Left) → spec.journal left ≡ Ok (journal, after) → IsJournal left after journal
unfolding spec.journal spec.events
journal_read left journal after e =
    let n = split (line part.Journal (number_line (codes "journal")) left) _ journal after e in
    let v = split (each (λ k. line part.Journal event_line) n.value 0 n.mid) _ journal after n.second in
    let is_last : List ℕ → Bool = λ text. bytes_eq text (codes "end-thread\n") in
    let l = split (line_by spec.part_at_end is_last v.mid) _ journal after v.second in
    let listing = one_line part.Journal (number_line (codes "journal")) left n.value n.mid (no_number (codes "journal")) n.first in
    let events = each_read part.Journal event_line n.value 0 n.mid v.value v.mid no_event v.first in
    let ending = one_by (spec.part_at_end (next_line v.mid)) is_last v.mid l.value l.mid refl l.first in
    let last = read_is v.value journal l.mid after l.second in
    subst (λ l. IsJournal left l journal) last.1
    (subst (λ (all : List Event). IsJournal left l.mid all) last.0
    (record {
      listing = listing.text;
      events = events.0.own;
      ending = ending.text;
      passed = passed_then listing.passed (passed_then events.0.passed ending.passed);
      is_listing = listing.said ∙ ap (λ k. Some k) (sym events.1);
      are_events = events.0.each;
      is_end = bytes_eq-true ending.text (codes "end-thread\n") ending.holds;
    }))

-- the lines of a block are between two places, behind other lines
record IsAt (version : Version) (thread : ℕ) (before : List (List ℕ)) (left after : Left) (b : Block) : Type 0 where
  own : List (List ℕ)
  passed : Passed left after own
  is : IsBlock version thread before own b

-- so many lines and bytes are before a place
record IsBehind (before : List (List ℕ)) (left : Left) : Type 0 where
  line : left.line ≡ length before
  place : left.place ≡ bytes_in before

behind_then : (before own : List (List ℕ)) (left after : Left) → IsBehind before left → Passed left after own → IsBehind (before ++ own) after
behind_then before own left after at passed = record {
  line = omega (arith, at.line, passed.line, length-append before own);
  place = omega (arith, at.place, passed.place, bytes-append before own);
}

block_read : (version : Version) (thread : ℕ) (before : List (List ℕ)) (left : Left) (b : Block) (after : Left) → IsBehind before left
    → block version thread left ≡ Ok (b, after) → IsAt version thread before left after b
unfolding block spec.output
block_read version thread before left b after at e =
    let h = split (spec.head thread left) _ b after e in
    let s = split (lines_of_kinds (state_lines version) h.mid) _ b after h.second in
    let z = split (spec.output s.mid) _ b after s.second in
    let n = split (line part.Block (number_line (codes "output")) s.mid) _ z.value z.mid z.first in
    let j = split (spec.journal z.mid) _ b after z.second in
    let head = head_read thread left h.value h.mid h.first in
    let state = kinds_read (state_lines version) h.mid s.value s.mid s.first in
    let sizing = one_line part.Block (number_line (codes "output")) s.mid n.value n.mid (no_number (codes "output")) n.first in
    let output = out_read ((n.value + 31) / 32) n.value n.mid z.value z.mid n.second in
    let journal = journal_read z.mid j.value j.mid j.first in
    let last = read_is _ b j.mid after j.second in
    let own = head.heading ∷ head.stopping ∷ head.counting ∷ (state.own ++ (sizing.text ∷ (output.own ++ (journal.listing
    ∷ (journal.events ++ journal.ending ∷ []))))) in
    let passed : Passed left j.mid own =
    passed_then head.passed (passed_then state.passed (passed_then sizing.passed (passed_then output.passed journal.passed))) in
    let beyond = behind_then before own left j.mid at passed in
    subst (λ l. IsAt version thread before left l b) last.1
    (subst (λ (x : Block). IsAt version thread before left j.mid x) last.0
    (record {
      own = own;
      passed = passed;
      is = record {
        heading = head.heading;
        stopping = head.stopping;
        counting = head.counting;
        state = state.own;
        sizing = sizing.text;
        output = output.own;
        listing = journal.listing;
        events = journal.events;
        ending = journal.ending;
        whole = refl;
        is_heading = head.is_heading;
        is_stop = head.is_stop;
        is_count = head.is_count;
        are_state = state.are;
        size = n.value;
        is_size = sizing.said;
        are_output = output.are;
        is_listing = journal.is_listing;
        are_events = journal.are_events;
        is_end = journal.is_end;
        start = at.place;
        end = beyond.place;
        first_line = ap (λ k. k + 1) at.line;
      };
    }))

-- ---- blocks

record AreAt (version : Version) (k : ℕ) (before : List (List ℕ)) (left after : Left) (blocks : List Block) : Type 0 where
  own : List (List ℕ)
  passed : Passed left after own
  are : AreBlocks version k before own blocks

blocks_read : (version : Version) (n k : ℕ) (before : List (List ℕ)) (left : Left) (blocks : List Block) (after : Left)
    → IsBehind before left → each (block version) n k left ≡ Ok (blocks, after)
    → AreAt version k before left after blocks × (length blocks ≡ n)
unfolding each
blocks_read version zero k before left blocks after at e =
    let same = read_is [] blocks left after e in
    subst (λ l. AreAt version k before left l blocks × (length blocks ≡ 0)) same.1
    (subst (λ (bs : List Block). AreAt version k before left left bs × (length bs ≡ 0)) same.0
    (record { own = []; passed = passed_none left; are = refl }, refl))
blocks_read version (suc n) k before left blocks after at e =
    let one = split (block version k left) _ blocks after e in
    let others = split (each (block version) n (k + 1) one.mid) _ blocks after one.second in
    let first = block_read version k before left one.value one.mid at one.first in
    let more = blocks_read version n (k + 1) (before ++ first.own) one.mid others.value others.mid
    (behind_then before first.own left one.mid at first.passed) others.first in
    let same = read_is (one.value ∷ others.value) blocks others.mid after others.second in
    subst (λ l. AreAt version k before left l blocks × (length blocks ≡ suc n)) same.1
    (subst (λ (bs : List Block). AreAt version k before left others.mid bs × (length bs ≡ suc n)) same.0 (
      record {
        own = first.own ++ more.0.own;
        passed = passed_then first.passed more.0.passed;
        are = (first.own, more.0.own, refl, first.is, more.0.are);
      },
      ap suc more.1,
    ))

-- ---- words

record WordsAt (name : List ℕ) (count : ℕ) (left after : Left) (words : List ℕ) : Type 0 where
  own : List (List ℕ)
  passed : Passed left after own
  are : AreWords name count own words

words_read : (name : List ℕ) (count : ℕ) (left : Left) (words : List ℕ) (after : Left)
    → word_lines name (replicate count 0) left ≡ Ok (words, after) → WordsAt name count left after words
unfolding word_lines past_all
words_read name count left words after e =
    let size : length (replicate count 0) ≡ count = length-replicate count 0 in
    let said = next_said (setting_line name (length (replicate count 0))) left.line left.place left.lines in
    let same = read_is _ words (past_all (λ text. is_some (setting_line name (length (replicate count 0)) text)) left) after e in
    subst (λ l. WordsAt name count left l words) same.1
    (record {
      own = said.own;
      passed = said.passed;
      are = record {
        settings = first_said (setting_line name (length (replicate count 0))) left.lines;
        each = ap (λ n. map (setting_line name n) said.own) (sym size) ∙ said.each;
        values = sym same.0;
      };
    })

-- ---- the whole

-- no line is left
none_left : (lines : List (List ℕ)) (left : Left) (u : Unit {0}) (after : Left)
    → nothing_of part.NotText part.End lines left ≡ Ok (u, after) → lines ≡ []
none_left [] left u after e = refl
none_left (text ∷ lines) left u after e = cc

whole_text : (lines own : List (List ℕ)) (left after : Left) → left.lines ≡ lines → Passed left after own → after.lines ≡ [] → lines ≡ own
whole_text lines own left after is passed none =
    sym is ∙ passed.split ∙ ap (λ (ls : List (List ℕ)). own ++ ls) none ∙ append-nil own

-- the lines after the blocks are between two places
record AreShared (left after : Left) (words : SharedWords) : Type 0 where
  heading : List ℕ
  shared : List (List ℕ)
  pending : List (List ℕ)
  ending : List ℕ
  passed : Passed left after (heading ∷ (shared ++ (pending ++ ending ∷ [])))
  is_heading : heading ≡ codes "shared\n"
  are_shared : AreWords (codes "w") 512 shared words.shared
  are_pending : AreWords (codes "pending") 32 pending words.pending
  is_end : ending ≡ codes "end\n"

is_shared : List ℕ → Bool
is_shared text = bytes_eq text (codes "shared\n")

is_end : List ℕ → Bool
is_end text = bytes_eq text (codes "end\n")

shared_by : (left m1 m2 m3 after : Left) (u v : Unit {0}) (shared pending : List ℕ)
    → line part.Shared (λ text. said_if (is_shared text)) left ≡ Ok (u, m1) → word_lines (codes "w") (replicate 512 0) m1 ≡ Ok (shared, m2)
    → word_lines (codes "pending") (replicate 32 0) m2 ≡ Ok (pending, m3) → line_by part_at_end is_end m3 ≡ Ok (v, after)
    → AreShared left after (record { shared = shared; pending = pending })
unfolding is_shared is_end
shared_by left m1 m2 m3 after u v shared pending e1 e2 e3 e4 =
    let heading = one_by part.Shared is_shared left u m1 refl e1 in
    let ws = words_read (codes "w") 512 m1 shared m2 e2 in
    let ps = words_read (codes "pending") 32 m2 pending m3 e3 in
    let ending = one_by (part_at_end (next_line m3)) is_end m3 v after refl e4 in
    record {
      heading = heading.text;
      shared = ws.own;
      pending = ps.own;
      ending = ending.text;
      passed = passed_then heading.passed (passed_then ws.passed (passed_then ps.passed ending.passed));
      is_heading = bytes_eq-true heading.text (codes "shared\n") heading.holds;
      are_shared = ws.are;
      are_pending = ps.are;
      is_end = bytes_eq-true ending.text (codes "end\n") ending.holds;
    }

shared_read : (left : Left) (words : SharedWords) (after : Left) → shared_words left ≡ Ok (words, after) → AreShared left after words
unfolding shared_words is_shared is_end
shared_read left words after e =
    let h = split (line part.Shared (λ text. said_if (is_shared text)) left) _ words after e in
    let s = split (word_lines (codes "w") (replicate 512 0) h.mid) _ words after h.second in
    let p = split (word_lines (codes "pending") (replicate 32 0) s.mid) _ words after s.second in
    let l = split (line_by part_at_end is_end p.mid) _ words after p.second in
    let last = read_is (record { shared = s.value; pending = p.value }) words l.mid after l.second in
    subst (λ m. AreShared left m words) last.1
    (subst (λ (x : SharedWords). AreShared left l.mid x) last.0
    (shared_by left h.mid s.mid p.mid l.mid h.value l.value s.value p.value h.first s.first p.first l.first))

-- the lines before the blocks are between two places
record AreTop (left after : Left) (version : Version) (numbers : Numbers) (digest : List ℕ) : Type 0 where
  first : List ℕ
  options : List ℕ
  image : List ℕ
  passed : Passed left after (first ∷ options ∷ image ∷ [])
  is_version : version_line first ≡ Some version
  are_options : options_line version options ≡ Some numbers
  is_image : image_line image ≡ Some digest

top_read : (left m1 m2 after : Left) (version : Version) (numbers : Numbers) (digest : List ℕ)
    → line part.Header version_line left ≡ Ok (version, m1) → line part.Options (options_line version) m1 ≡ Ok (numbers, m2)
    → line part.Image image_line m2 ≡ Ok (digest, after) → AreTop left after version numbers digest
top_read left m1 m2 after version numbers digest e1 e2 e3 =
    let first = one_line part.Header version_line left version m1 no_version e1 in
    let options = one_line part.Options (options_line version) m1 numbers m2 (no_options version) e2 in
    let image = one_line part.Image image_line m2 digest after no_image e3 in
    record {
      first = first.text;
      options = options.text;
      image = image.text;
      passed = passed_then first.passed (passed_then options.passed image.passed);
      is_version = first.said;
      are_options = options.said;
      is_image = image.said;
    }

abbrev lines_of_top : {left after : Left} {version : Version} {numbers : Numbers} {digest : List ℕ} → AreTop left after version numbers digest
    → List (List ℕ)
lines_of_top top = top.first ∷ top.options ∷ top.image ∷ []

-- all lines of a report
put_together : (text : List ℕ) (version : Version) (numbers : Numbers) (digest : List ℕ) (blocks : List Block) (words : SharedWords)
    (m1 m2 m3 : Left) (top : AreTop (all_lines text) m1 version numbers digest) (those : AreAt version 0 (lines_of_top top) m1 m2 blocks)
    → length blocks ≡ numbers.threads → AreShared m2 m3 words → m3.lines ≡ []
    → AreReport (lines_of text) (record { options = numbers; image = digest; blocks = blocks; words = words })
put_together text version numbers digest blocks words m1 m2 m3 top those one_each last none = record {
  first = top.first;
  options = top.options;
  image = top.image;
  blocks = those.own;
  heading = last.heading;
  shared = last.shared;
  pending = last.pending;
  ending = last.ending;
  whole = whole_text (lines_of text) _ (all_lines text) m3 refl (passed_then top.passed (passed_then those.passed last.passed)) none;
  version = version;
  is_version = top.is_version;
  are_options = top.are_options;
  is_image = top.is_image;
  are_blocks = those.are;
  one_each = one_each;
  is_heading = last.is_heading;
  are_shared = last.are_shared;
  are_pending = last.are_pending;
  is_end = last.is_end;
}

parts_read : (text : List ℕ) (m1 m2 m3 m4 m5 m6 : Left) (version : Version) (numbers : Numbers) (digest : List ℕ) (blocks : List Block)
    (words : SharedWords) (u : Unit {0})
    → line part.Header version_line (all_lines text) ≡ Ok (version, m1) → line part.Options (options_line version) m1 ≡ Ok (numbers, m2)
    → line part.Image image_line m2 ≡ Ok (digest, m3) → each (block version) numbers.threads 0 m3 ≡ Ok (blocks, m4)
    → shared_words m4 ≡ Ok (words, m5) → nothing m5 ≡ Ok (u, m6)
    → AreReport (lines_of text) (record { options = numbers; image = digest; blocks = blocks; words = words })
parts_read text m1 m2 m3 m4 m5 m6 version numbers digest blocks words u e1 e2 e3 e4 e5 e6 =
    let top = top_read (all_lines text) m1 m2 m3 version numbers digest e1 e2 e3 in
    let start : IsBehind [] (all_lines text) = record { line = refl; place = refl } in
    let those = blocks_read version numbers.threads 0 (lines_of_top top) m3 blocks m4
    (behind_then [] (lines_of_top top) (all_lines text) m3 start top.passed) e4 in
    put_together text version numbers digest blocks words m3 m4 m5 top those.0 those.1 (shared_read m4 words m5 e5)
    (none_left m5.lines m5 u m6 e6)

lines_read : (text : List ℕ) (report : Report) (after : Left) → report_lines (all_lines text) ≡ Ok (report, after)
    → AreReport (lines_of text) report
unfolding report_lines
lines_read text report after e =
    let v = split (line part.Header version_line (all_lines text)) _ report after e in
    let o = split (line part.Options (options_line v.value) v.mid) _ report after v.second in
    let i = split (line part.Image image_line o.mid) _ report after o.second in
    let b = split (each (block v.value) o.value.threads 0 i.mid) _ report after i.second in
    let w = split (shared_words b.mid) _ report after b.second in
    let n = split (nothing w.mid) _ report after w.second in
    subst (λ (r : Report). AreReport (lines_of text) r) (read_is _ report n.mid after n.second).0
    (parts_read text v.mid o.mid i.mid b.mid w.mid n.mid v.value o.value i.value b.value w.value n.value v.first o.first i.first b.first
    w.first n.first)

-- a report that was read, and what is left after it
record IsRead (read : Result (Report × Left) Fault) (report : Report) : Type 0 where
  after : Left
  is : read ≡ Ok (report, after)

outcome_is : (read : Result (Report × Left) Fault) (report : Report) → outcome read ≡ Ok report → IsRead read report
outcome_is (Ok read) report e = record { after = read.1; is = ap (λ r. before_left read.1 r) e }
  where
    before_left : Left → Result Report Fault → Result (Report × Left) Fault
    before_left left (Ok r) = Ok (r, left)
    before_left left (Err fault) = Err fault
outcome_is (Err fault) report e = cc

pub report_sound : (text : List ℕ) (report : Report) → report_in text ≡ Ok report → IsReportOf text report
unfolding report_in
report_sound text report e =
    elim (nat_lt 1073741824 (length text)) as (λ b. nat_lt 1073741824 (length text) ≡ b →
    cond b (Err (record { line = 0; kind = part.TooLong })) (outcome (report_lines (all_lines text))) ≡ Ok report
    → IsReportOf text report) [
      | true ↦ λ long none. cc
      | false ↦ λ long read.
          let is = outcome_is (report_lines (all_lines text)) report read in
          record { size = ltb-false 1073741824 (length text) long; lines = lines_read text report is.after is.is }
    ] refl e

-- ---- where blocks stand

-- a block stands within so many bytes
record IsWithin (total : ℕ) (b : Block) : Type 0 where
  ordered : b.start ≤ b.end
  inside : b.end ≤ total

blocks_within : (version : Version) (k : ℕ) (before lines behind : List (List ℕ)) (blocks : List Block) → AreBlocks version k before lines blocks
    → AllByRecursion (IsWithin (bytes_in (before ++ (lines ++ behind)))) blocks
blocks_within version k before lines behind [] are = tt
blocks_within version k before lines behind (b ∷ blocks) are =
    let own = are.0 in
    let others = are.1 in
    let it = are.3 in
    let total : before ++ (lines ++ behind) ≡ (before ++ own) ++ (others ++ behind) =
    ap (λ (ls : List (List ℕ)). before ++ (ls ++ behind)) are.2 ∙ ap (λ (ls : List (List ℕ)). before ++ ls) (append_assoc own others behind)
    ∙ sym (append_assoc before own (others ++ behind)) in
    subst (λ (ls : List (List ℕ)). AllByRecursion (IsWithin (bytes_in ls)) (b ∷ blocks)) (sym total) (
      record {
        ordered = omega (arith, it.start, it.end, bytes-append before own);
        inside = omega (arith, it.end, bytes-append (before ++ own) (others ++ behind));
      },
      blocks_within version (k + 1) (before ++ own) others behind blocks are.4,
    )

each_stands : (text : List ℕ) (blocks : List ReportBlock) → AllByRecursion (IsWithin (length text)) (map block_said blocks)
    → AllByRecursion (StandsIn text) blocks
each_stands text [] all = tt
each_stands text (block ∷ blocks) all =
    (record { ordered = all.0.ordered; inside = all.0.inside }, each_stands text blocks all.1)

-- the blocks of a report of the code
pub report_stands : (text : List ℕ) (it : Result told.Report ReportFault) → Answers (report_in text) it
    → IfOk it (λ report. All (StandsIn text) report.blocks.items)
report_stands text (Ok report) is =
    let it = (report_sound text (report_said report) is).lines in
    let total : bytes_in ((it.first ∷ it.options ∷ it.image ∷ []) ++ (it.blocks ++ (it.heading ∷ (it.shared ++ (it.pending ++ it.ending ∷ [])))))
    ≡ length text = ap bytes_in (sym it.whole) ∙ bytes_of_text text in
    All-from_recursion (StandsIn text) report.blocks.items
    (each_stands text report.blocks.items
    (subst (λ n. AllByRecursion (IsWithin n) (map block_said report.blocks.items)) total
    (blocks_within it.version 0 (it.first ∷ it.options ∷ it.image ∷ []) it.blocks _ (map block_said report.blocks.items) it.are_blocks)))
report_stands text (Err fault) is = tt
