-- The fault of a report is at the first line that is not in the format.
use Rattle.std.proofs.Common.{◌≡◌, ℕ, zero, suc, ◌+◌, ◌-◌, ◌/◌, ◌<◌, ◌≤◌, min, nat_lt, inl, inr, Bool, true, false, cond, List, [], ◌∷◌}
use Rattle.std.proofs.Common.{length, take, replicate, Result, Ok, Err, refl, sym, ap, ◌∙◌, arith, subst}
use Rattle.std.specs.Prelude.{codes}
use Rattle.std.specs.Str.{bytes_eq}
use Rattle.std.proofs.lemmas.Bool.{ltb-false, ltb-true}
use Rattle.plain_lemmas.proofs.Lists.{cons_inj}
use Rattle.sm_types.specs.declared.version.Version.{Version}
use Rattle.line_reader.specs.Lines.{lines_of}
use Rattle.line_reader.specs.Reading.{Left, and_then, said_if, each, past_all}
use Rattle.text_lines.specs.Forms.{often_of, state_lines}
use Rattle.text_lines.specs.declared.forms.LineKind.{LineKind}
use Rattle.text_lines.specs.declared.forms.Often.{Often}
use Rattle.text_lines.specs.declared.forms.Often.TheVariants.{Once, AtMostOnce, AnyTimes}
use Rattle.report_reader.specs.Reading.{Fault, Reading, line, line_by}
use Rattle.report_reader.specs.Forms.{is_line}
use Rattle.report_reader.specs.Stops.{stop_line}
use Rattle.report_reader.specs.Events.{number_line, is_thread, out_line, event_line, setting_line}
use Rattle.report_reader.specs.Header.{version_line, options_line, image_line}
use Rattle.report_reader.specs.Block as spec
use Rattle.report_reader.specs.Block.{Block, block, together, lines_of_kinds}
use Rattle.report_reader.specs.Report.{Report, report_lines, report_in, all_lines, outcome, shared_words, nothing, word_lines}
use Rattle.report_reader.specs.Report.{part_at_end, with_settings}
use Rattle.report_reader.specs.Grammar.{IsReportOf}
use Rattle.report_reader.specs.declared.fault.ReportKind.TheVariants as part
use Rattle.report_laws.specs.FirstFault.{BeginsAlike, IsTooLong, IsFaultOf}
use Rattle.report_laws.proofs.FormatReports.{short_is, format_read}
use Rattle.report_laws.proofs.FirstLines.{AreAlike, GoesByLines, IsLater, IsSame, by_then, by_give, by_place, by_each, by_line}
use Rattle.report_laws.proofs.FirstLines.{by_line_by, by_maybe, by_any, by_all, by_nothing}

-- ---- a block

by_together : (often : Often) (kind : LineKind) → GoesByLines (together often kind)
by_together Once kind = by_line part.Block (λ text. said_if (is_line kind text))
by_together AtMostOnce kind = by_maybe (is_line kind)
by_together AnyTimes kind = by_any (is_line kind)

by_kinds : (kinds : List LineKind) → GoesByLines (lines_of_kinds kinds)
unfolding lines_of_kinds
by_kinds [] = by_give tt
by_kinds (kind ∷ kinds) = by_then (together (often_of kind) kind) _ (by_together (often_of kind) kind) (λ u. by_kinds kinds)

by_head : (thread : ℕ) → GoesByLines (spec.head thread)
unfolding spec.head
by_head thread =
    by_then (line part.Block (λ text. said_if (is_thread thread text))) _ (by_line part.Block (λ text. said_if (is_thread thread text)))
    (λ u. by_then (line part.Block stop_line) _ (by_line part.Block stop_line)
    (λ stop. by_then (line part.Block (number_line (codes "count"))) _ (by_line part.Block (number_line (codes "count")))
    (λ count. by_give (record { stop = stop; count = count }))))

by_out : (n size : ℕ) → GoesByLines (spec.out_lines n size)
unfolding spec.out_lines
by_out zero size = by_give tt
by_out (suc n) size =
    by_then (line part.Block (out_line (min size 32))) _ (by_line part.Block (out_line (min size 32))) (λ u. by_out n (size - 32))

by_output : GoesByLines spec.output
unfolding spec.output
by_output =
    by_then (line part.Block (number_line (codes "output"))) _ (by_line part.Block (number_line (codes "output")))
    (λ size. by_out ((size + 31) / 32) size)

by_journal : GoesByLines spec.journal
unfolding spec.journal spec.events
by_journal =
    let is_last : List ℕ → Bool = λ text. bytes_eq text (codes "end-thread\n") in
    by_then (line part.Journal (number_line (codes "journal"))) _ (by_line part.Journal (number_line (codes "journal")))
    (λ count. by_then (each (λ k. line part.Journal event_line) count 0) _
    (by_each (λ k. line part.Journal event_line) (λ k. by_line part.Journal event_line) count 0)
    (λ events. by_then (line_by spec.part_at_end is_last) _ (by_line_by spec.part_at_end is_last)
    (λ u. by_give events)))

-- the block of a thread, where so many lines and bytes are before it
block_from : Version → ℕ → ℕ → ℕ → Reading Block
block_from version thread before place left =
    and_then (spec.head thread left) (λ head left. and_then (lines_of_kinds (state_lines version) left) (λ u left.
    and_then (spec.output left) (λ v left. and_then (spec.journal left) (λ events left. Ok (
      record {
        start = place;
        end = left.place;
        first_line = before + 1;
        count = head.count;
        stop = head.stop;
        journal = events;
      },
      left,
    )))))

by_behind : (version : Version) (thread before place : ℕ) → GoesByLines (block_from version thread before place)
unfolding block_from
by_behind version thread before place =
    by_then (spec.head thread) _ (by_head thread)
    (λ head. by_then (lines_of_kinds (state_lines version)) _ (by_kinds (state_lines version))
    (λ u. by_then spec.output _ by_output
    (λ v. by_then spec.journal _ by_journal
    (λ events. by_place (λ end. record {
      start = place;
      end = end;
      first_line = before + 1;
      count = head.count;
      stop = head.stop;
      journal = events;
    })))))

by_block : (version : Version) (thread : ℕ) → GoesByLines (block version thread)
unfolding block block_from
by_block version thread = record {
  later = λ left. (by_behind version thread left.line left.place).later left;
  same = λ n ahead left others reach alike. (by_behind version thread left.line left.place).same n ahead left others reach alike;
}

-- ---- a report

by_words : (name words : List ℕ) → GoesByLines (word_lines name words)
unfolding word_lines past_all
by_words name words = by_all (with_settings words) (setting_line name (length words))

by_shared : GoesByLines shared_words
unfolding shared_words
by_shared =
    let is_shared : List ℕ → Bool = λ text. bytes_eq text (codes "shared\n") in
    let is_end : List ℕ → Bool = λ text. bytes_eq text (codes "end\n") in
    by_then (line part.Shared (λ text. said_if (is_shared text))) _ (by_line part.Shared (λ text. said_if (is_shared text)))
    (λ u. by_then (word_lines (codes "w") (replicate 512 0)) _ (by_words (codes "w") (replicate 512 0))
    (λ shared. by_then (word_lines (codes "pending") (replicate 32 0)) _ (by_words (codes "pending") (replicate 32 0))
    (λ pending. by_then (line_by part_at_end is_end) _ (by_line_by part_at_end is_end)
    (λ v. by_give (record { shared = shared; pending = pending })))))

by_report : GoesByLines report_lines
unfolding report_lines
by_report =
    by_then (line part.Header version_line) _ (by_line part.Header version_line)
    (λ version. by_then (line part.Options (options_line version)) _ (by_line part.Options (options_line version))
    (λ options. by_then (line part.Image image_line) _ (by_line part.Image image_line)
    (λ image. by_then (each (block version) options.threads 0) _ (by_each (block version) (by_block version) options.threads 0)
    (λ blocks. by_then shared_words _ by_shared
    (λ words. by_then nothing _ (by_nothing part.End)
    (λ u. by_give (record { options = options; image = image; blocks = blocks; words = words })))))))

-- ---- a file

alike_lines : (n : ℕ) (lines others : List (List ℕ)) → take n lines ≡ take n others → AreAlike n lines others
alike_lines zero lines others e = tt
alike_lines (suc n) [] [] e = tt
alike_lines (suc n) [] (other ∷ others) e = cc
alike_lines (suc n) (line ∷ lines) [] e = cc
alike_lines (suc n) (line ∷ lines) (other ∷ others) e =
    let both = cons_inj e in (both.0, alike_lines n lines others both.1)

outcome_fault : (read : Result (Report × Left) Fault) (fault : Fault) → outcome read ≡ Err fault → read ≡ Err fault
outcome_fault (Ok read) fault e = cc
outcome_fault (Err its) fault e = ap (λ r. again r) e
  where
    again : Result Report Fault → Result (Report × Left) Fault
    again (Ok r) = Err its
    again (Err f) = Err f

short_fault : (text : List ℕ) (fault : Fault) → length text ≤ 1073741824 → report_in text ≡ Err fault
    → report_lines (all_lines text) ≡ Err fault
short_fault text fault size is = outcome_fault (report_lines (all_lines text)) fault (sym (short_is text size) ∙ is)

-- the fault is behind the start of the file
fault_later : (read : Result (Report × Left) Fault) (fault : Fault) (left : Left) → IsLater left read → read ≡ Err fault
    → left.line < fault.line
fault_later read fault left later is = subst (λ r. IsLater left r) is later

same_fault : (n : ℕ) (read other : Result (Report × Left) Fault) (fault : Fault) → IsSame n read other → read ≡ Err fault → fault.line ≤ n
    → other ≡ Err fault
same_fault n read other fault same is = subst (λ r. IsSame n r other) is same

-- files that begin with the lines up to the fault have it
whole_fault : (text other : List ℕ) (fault : Fault) → length text ≤ 1073741824 → report_in text ≡ Err fault
    → BeginsAlike fault.line text other
    → report_in other ≡ Err fault
whole_fault text other fault size is alike =
    let same = by_report.same fault.line fault.line (all_lines text) (lines_of other) (omega arith)
    (alike_lines fault.line (lines_of text) (lines_of other) alike.lines) in
    let it = same_fault fault.line (report_lines (all_lines text)) (report_lines (all_lines other)) fault same
    (short_fault text fault size is)
    (omega arith) in
    short_is other alike.size ∙ ap outcome it

no_report : (text other : List ℕ) (fault : Fault) (report : Report) → length text ≤ 1073741824 → report_in text ≡ Err fault
    → BeginsAlike fault.line text other → IsReportOf other report → ⊥
no_report text other fault report size is alike written =
    let both : Err fault ≡ Ok report = sym (whole_fault text other fault size is alike) ∙ format_read other report written in cc

same_line : (text : List ℕ) (fault its : Fault) → report_in text ≡ Err fault → report_in text ≡ Err its → fault.line ≡ its.line
same_line text fault its one two = ap line_of (sym one ∙ two)
  where
    line_of : Result Report Fault → ℕ
    line_of (Ok report) = 0
    line_of (Err f) = f.line

fewer : (n m : ℕ) (lines others : List (List ℕ)) → m ≤ n → take n lines ≡ take n others → take m lines ≡ take m others
fewer n zero lines others l e = refl
fewer zero (suc m) lines others l e = absurd (omega (arith, l))
fewer (suc n) (suc m) [] [] l e = refl
fewer (suc n) (suc m) [] (other ∷ others) l e = cc
fewer (suc n) (suc m) (line ∷ lines) [] l e = cc
fewer (suc n) (suc m) (line ∷ lines) (other ∷ others) l e =
    let both = cons_inj e in
    let more = fewer n m lines others (omega (arith, l)) both.1 in
    rw (both.0, more) refl

first_fault : (text other : List ℕ) (fault its : Fault) → length text ≤ 1073741824 → report_in text ≡ Err fault
    → BeginsAlike (fault.line - 1) text other → report_in other ≡ Err its → fault.line ≤ its.line
first_fault text other fault its size is alike has =
    elim (nat_lt its.line fault.line) as (λ b. nat_lt its.line fault.line ≡ b → fault.line ≤ its.line) [
      | true ↦ λ e.
          let before : its.line < fault.line = ltb-true its.line fault.line e in
          let back : BeginsAlike its.line other text = record {
            size = size;
            lines = sym (fewer (fault.line - 1) its.line (lines_of text) (lines_of other) (omega (arith, before)) alike.lines);
          } in
          let one = same_line text fault its is (whole_fault other text its alike.size has back) in
          absurd (omega (arith, one, before))
      | false ↦ λ e. ltb-false its.line fault.line e
    ] refl

too_long : (text : List ℕ) (fault : Fault) → nat_lt 1073741824 (length text) ≡ true → report_in text ≡ Err fault → IsTooLong text fault
unfolding report_in
too_long text fault e is =
    let none : Err (record { line = 0; kind = part.TooLong }) ≡ Err fault =
    sym (ap (λ b. cond b (Err (record { line = 0; kind = part.TooLong })) (outcome (report_lines (all_lines text)))) e) ∙ is in
    record { exceeds = ltb-true 1073741824 (length text) e; number = cc; wrong = cc }

pub fault_first : (text : List ℕ) (fault : Fault) → report_in text ≡ Err fault → IsFaultOf text fault
fault_first text fault is =
    elim (nat_lt 1073741824 (length text)) as (λ b. nat_lt 1073741824 (length text) ≡ b → IsFaultOf text fault) [
      | true ↦ λ e. inl (too_long text fault e is)
      | false ↦ λ e.
          let size = ltb-false 1073741824 (length text) e in
          inr (record {
            size = size;
            number = fault_later (report_lines (all_lines text)) fault (all_lines text) (by_report.later (all_lines text))
                (short_fault text fault size is);
            whole = λ other alike. whole_fault text other fault size is alike;
            none = λ other report alike written. no_report text other fault report size is alike written;
            first = λ other its alike has. first_fault text other fault its size is alike has;
          })
    ] refl
