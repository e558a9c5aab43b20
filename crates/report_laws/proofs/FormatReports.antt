-- A file that is in the format is read.
use Rattle.std.proofs.Common.{◌≡◌, ℕ, suc, ◌+◌, ◌/◌, ◌≤◌, cond, Bool, true, List, [], ◌∷◌, ◌++◌, length, map, replicate, Some, None, Ok}
use Rattle.std.proofs.Common.{Err, refl, sym, ap, ◌∙◌, arith, subst, length-append}
use Rattle.std.specs.Prelude.{codes}
use Rattle.std.specs.Str.{bytes_eq}
use Rattle.std.proofs.lemmas.Bool.{le-ltb}
use Rattle.std.proofs.lemmas.List.{append-nil, length-replicate}
use Rattle.plain_lemmas.proofs.Lists.{cons_inj}
use Rattle.sm_types.specs.declared.shared_op.Event.{Event}
use Rattle.sm_types.specs.declared.stop.Stop.{Stop}
use Rattle.sm_types.specs.declared.version.Version.{Version}
use Rattle.line_reader.specs.Lines.{lines_of, words_of, words_in, is_ended}
use Rattle.line_reader.specs.Reading.{said_if, first_of, past_all, each}
use Rattle.text_lines.specs.Forms.{state_lines}
use Rattle.report_reader.specs.Reading.{line}
use Rattle.report_reader.specs.Stops.{stop_line}
use Rattle.report_reader.specs.Events.{number_line, is_thread, event_line, setting_line}
use Rattle.report_reader.specs.Header.{version_line, options_line, image_line}
use Rattle.report_reader.specs.Block as spec
use Rattle.report_reader.specs.Block.{Block, block, lines_of_kinds}
use Rattle.report_reader.specs.Report.{Report, SharedWords, report_lines, report_in, all_lines, outcome, shared_words, word_lines}
use Rattle.report_reader.specs.Report.{part_at_end, with_settings}
use Rattle.report_reader.specs.Grammar.{AreOutput, AreEvents, IsBlock, AreBlocks, AreWords, AreReport, IsReportOf, bytes_in}
use Rattle.report_reader.specs.declared.events.Setting.{Setting}
use Rattle.report_reader.specs.declared.fault.ReportKind.TheVariants as part
use Rattle.report_reader.proofs.Passing.{bytes-append}
use Rattle.report_laws.proofs.FirstLines.{from_line, all_read}
use Rattle.report_laws.proofs.FormatLines.{behind, read_to, same_place, then_read, lines_then, line_read, line_by_read, HasName}
use Rattle.report_laws.proofs.FormatLines.{setting_named, other_setting, number_none, kinds_read, out_read, each_read, all_said}
use Rattle.report_laws.proofs.States.{lines_apart, lines_foreign}

-- ---- a block

head_read : (thread n place : ℕ) (heading stopping counting : List ℕ) (rest : List (List ℕ)) (stop : Stop) (count : ℕ)
    → is_thread thread heading ≡ true → stop_line stopping ≡ Some stop → number_line (codes "count") counting ≡ Some count
    → spec.head thread (from_line n place (heading ∷ stopping ∷ counting ∷ rest))
    ≡ Ok (record { stop = stop; count = count }, behind n place (heading ∷ stopping ∷ counting ∷ []) rest)
unfolding spec.head
head_read thread n place heading stopping counting rest stop count h s c =
    let a = line_read part.Block (λ text. said_if (is_thread thread text)) n place heading (stopping ∷ counting ∷ rest) tt (ap said_if h) in
    let b = line_read part.Block stop_line (n + 1) (place + length heading) stopping (counting ∷ rest) stop s in
    let d = line_read part.Block (number_line (codes "count")) (n + 1 + 1)
    (place + length heading + length stopping) counting rest count c in
    then_read _ _ tt _ _ a (then_read _ _ stop _ _ b (then_read _ _ count _ _ d
    (same_place (record { stop = stop; count = count }) (n + 1 + 1 + 1) (n + 3) (place + length heading + length stopping + length counting)
    (place + (length heading + (length stopping + (length counting + 0)))) rest (omega arith) (omega arith))))

output_read : (size n place : ℕ) (sizing : List ℕ) (own rest : List (List ℕ)) → number_line (codes "output") sizing ≡ Some size
    → AreOutput ((size + 31) / 32) size own
    → spec.output (from_line n place ((sizing ∷ own) ++ rest)) ≡ Ok (tt, behind n place (sizing ∷ own) rest)
unfolding spec.output
output_read size n place sizing own rest is are =
    let a = line_read part.Block (number_line (codes "output")) n place sizing (own ++ rest) size is in
    then_read _ _ size _ _ a (out_read ((size + 31) / 32) size (n + 1) (place + length sizing) own rest are
    ∙ same_place tt (n + 1 + length own) (n + suc (length own)) (place + length sizing + bytes_in own)
    (place + (length sizing + bytes_in own)) rest (omega arith) (omega arith))

journal_read : (n place : ℕ) (listing : List ℕ) (events : List (List ℕ)) (ending : List ℕ) (rest : List (List ℕ)) (journal : List Event)
    → number_line (codes "journal") listing ≡ Some (length journal) → AreEvents events journal → ending ≡ codes "end-thread\n"
    → spec.journal (from_line n place ((listing ∷ (events ++ ending ∷ [])) ++ rest))
    ≡ Ok (journal, behind n place (listing ∷ (events ++ ending ∷ [])) rest)
unfolding spec.journal spec.events
journal_read n place listing events ending rest journal is are end =
    let is_last : List ℕ → Bool = λ text. bytes_eq text (codes "end-thread\n") in
    let line2 = n + 1 + length events in
    let place2 = place + length listing + bytes_in events in
    let a = line_read part.Journal (number_line (codes "journal")) n place listing ((events ++ ending ∷ []) ++ rest) (length journal) is in
    let b = each_read part.Journal event_line 0 (n + 1) (place + length listing) events (ending ∷ rest) journal are in
    let c = line_by_read spec.part_at_end is_last line2 place2 ending rest (ap is_last end) in
    then_read _ _ (length journal) _ _ a
    (lines_then (each (λ k. line part.Journal event_line) (length journal) 0) _ (n + 1) (place + length listing) events
    (ending ∷ []) rest journal _ b
    (then_read _ _ tt _ _ c (same_place journal (line2 + 1) (n + suc (length (events ++ ending ∷ []))) (place2 + length ending)
    (place + (length listing + bytes_in (events ++ ending ∷ []))) rest (omega (arith, length-append events (ending ∷ [])))
    (omega (arith, bytes-append events (ending ∷ []))))))

-- a block of other places
moved : Block → ℕ → ℕ → ℕ → Block
moved it start end first_line = record it { start = start; end = end; first_line = first_line }

same_block : (it : Block) (s e f s' e' f' : ℕ) → s ≡ s' → e ≡ e' → f ≡ f' → moved it s e f ≡ moved it s' e' f'
same_block it s e f s' e' f' one two three =
    ap (λ n. moved it n e f) one ∙ ap (λ n. moved it s' n f) two ∙ ap (λ n. moved it s' e' n) three

block_at : (version : Version) (thread n place : ℕ) (before own rest : List (List ℕ)) (it : Block)
    (is : IsBlock version thread before own it)
    → n ≡ length before → place ≡ bytes_in before
    → block version thread (from_line n place (own ++ rest)) ≡ Ok (it, behind n place own rest)
unfolding block moved
block_at version thread n place before own rest it is same_line same_bytes =
    let top = is.heading ∷ is.stopping ∷ is.counting ∷ [] in
    let tail = is.listing ∷ (is.events ++ is.ending ∷ []) in
    let more = (is.sizing ∷ is.output) ++ tail in
    let n1 = n + 3 in
    let p1 = place + bytes_in top in
    let n2 = n1 + length is.state in
    let p2 = p1 + bytes_in is.state in
    let n3 = n2 + length (is.sizing ∷ is.output) in
    let p3 = p2 + bytes_in (is.sizing ∷ is.output) in
    let n4 = n3 + length tail in
    let p4 = p3 + bytes_in tail in
    let lines : n4 ≡ n + length (top ++ (is.state ++ more)) =
    omega (arith, length-append is.state more, length-append is.output tail) in
    let bytes : p4 ≡ place + bytes_in (top ++ (is.state ++ more)) =
    omega (arith, bytes-append is.state more, bytes-append is.output tail) in
    let a = head_read thread n place is.heading is.stopping is.counting
    ((is.state ++ more) ++ rest) it.stop it.count is.is_heading is.is_stop
    is.is_count in
    let b = kinds_read (state_lines version) n1 p1 is.state (more ++ rest) (lines_apart version) is.are_state
    (number_none (state_lines version) is.sizing (codes "output") is.size is.is_size (lines_foreign version)) in
    let c = output_read is.size n2 p2 is.sizing is.output (tail ++ rest) is.is_size is.are_output in
    let d = journal_read n3 p3 is.listing is.events is.ending rest it.journal is.is_listing is.are_events is.is_end in
    let end : p4 ≡ it.end = bytes ∙ omega (arith, same_bytes, is.end, bytes-append before own, ap bytes_in is.whole) in
    let same : moved it place p4 (n + 1) ≡ it =
    same_block it place p4 (n + 1) it.start it.end it.first_line (same_bytes ∙ sym is.start) end
    (ap (λ k. k + 1) same_line ∙ sym is.first_line) in
    subst (λ ls. block version thread (from_line n place (ls ++ rest)) ≡ Ok (it, behind n place ls rest)) (sym is.whole)
    (then_read (spec.head thread (from_line n place ((top ++ (is.state ++ more)) ++ rest))) _
    (record { stop = it.stop; count = it.count }) _ _ a
    (lines_then (lines_of_kinds (state_lines version)) _ n1 p1 is.state more rest tt _ b
    (lines_then spec.output _ n2 p2 (is.sizing ∷ is.output) tail rest tt _ c
    (then_read _ _ it.journal _ _ d
    (ap (λ x. read_to x n4 p4 rest) same
    ∙ same_place it n4 (n + length (top ++ (is.state ++ more))) p4 (place + bytes_in (top ++ (is.state ++ more))) rest lines bytes)))))

blocks_at : (version : Version) (k n place : ℕ) (before own rest : List (List ℕ)) (blocks : List Block)
    → AreBlocks version k before own blocks
    → n ≡ length before → place ≡ bytes_in before
    → each (block version) (length blocks) k (from_line n place (own ++ rest)) ≡ Ok (blocks, behind n place own rest)
unfolding each
blocks_at version k n place before own rest [] are same_line same_bytes =
    subst (λ ls. each (block version) 0 k (from_line n place (ls ++ rest)) ≡ Ok ([], behind n place ls rest)) (sym are)
    (same_place [] n (n + 0) place (place + 0) rest (omega arith) (omega arith))
blocks_at version k n place before own rest (it ∷ blocks) are same_line same_bytes =
    let first = are.0 in
    let others = are.1 in
    let n1 = n + length first in
    let p1 = place + bytes_in first in
    let a = block_at version k n place before first (others ++ rest) it are.3 same_line same_bytes in
    let b = blocks_at version (k + 1) n1 p1 (before ++ first) others rest blocks are.4
    (omega (arith, same_line, length-append before first))
    (omega (arith, same_bytes, bytes-append before first)) in
    subst (λ ls. each (block version) (suc (length blocks)) k (from_line n place (ls ++ rest)) ≡ Ok (it ∷ blocks, behind n place ls rest))
    (sym are.2)
    (lines_then (block version k) _ n place first others rest it _ a
    (then_read _ _ blocks _ _ b
    (same_place (it ∷ blocks) (n1 + length others) (n + length (first ++ others)) (p1 + bytes_in others)
    (place + bytes_in (first ++ others)) rest
    (omega (arith, length-append first others)) (omega (arith, bytes-append first others)))))

-- ---- the words

words_at : (name : List ℕ) (count n place : ℕ) (own rest : List (List ℕ)) (words : List ℕ) → AreWords name count own words
    → setting_line name count (first_of rest) ≡ None
    → word_lines name (replicate count 0) (from_line n place (own ++ rest)) ≡ Ok (words, behind n place own rest)
unfolding word_lines past_all
words_at name count n place own rest words are none =
    ap (λ m. all_read (with_settings (replicate count 0)) (setting_line name m) n place (own ++ rest)) (length-replicate count 0)
    ∙ all_said (with_settings (replicate count 0)) (setting_line name count) n place own rest are.settings are.each none
    ∙ ap (λ ws. read_to ws (n + length own) (place + bytes_in own) rest) (sym are.values)

end_words : words_of (codes "end\n") ≡ codes "end" ∷ []
unfolding words_of words_in is_ended
end_words = refl

end_named : (ending : List ℕ) → ending ≡ codes "end\n" → HasName ending (codes "end")
end_named ending e =
    subst (λ t. HasName t (codes "end")) (sym e) (record { word = codes "end"; words = []; are = end_words; is = refl })

after_words : (pending : List (List ℕ)) (ending : List ℕ) (rest : List (List ℕ)) (settings : List Setting)
    → map (setting_line (codes "pending") 32) pending ≡ map (λ s. Some s) settings → HasName ending (codes "end")
    → setting_line (codes "w") 512 (first_of ((pending ++ ending ∷ []) ++ rest)) ≡ None
after_words [] ending rest settings each end = other_setting ending (codes "end") (codes "w") 512 end refl
after_words (text ∷ pending) ending rest [] each end = cc
after_words (text ∷ pending) ending rest (setting ∷ settings) each end =
    let said : setting_line (codes "pending") 32 text ≡ Some setting = (cons_inj each).0 in
    other_setting text (codes "pending") (codes "w") 512 (setting_named (codes "pending") 32 text setting said) refl

shared_at : (n place : ℕ) (heading : List ℕ) (shared pending : List (List ℕ)) (ending : List ℕ) (rest : List (List ℕ)) (words : SharedWords)
    → heading ≡ codes "shared\n" → AreWords (codes "w") 512 shared words.shared → AreWords (codes "pending") 32 pending words.pending
    → ending ≡ codes "end\n"
    → shared_words (from_line n place ((heading ∷ (shared ++ (pending ++ ending ∷ []))) ++ rest))
    ≡ Ok (words, behind n place (heading ∷ (shared ++ (pending ++ ending ∷ []))) rest)
unfolding shared_words
shared_at n place heading shared pending ending rest words head ws ps end =
    let is_shared : List ℕ → Bool = λ text. bytes_eq text (codes "shared\n") in
    let is_end : List ℕ → Bool = λ text. bytes_eq text (codes "end\n") in
    let last = pending ++ ending ∷ [] in
    let n1 = n + 1 in
    let p1 = place + length heading in
    let n2 = n1 + length shared in
    let p2 = p1 + bytes_in shared in
    let n3 = n2 + length pending in
    let p3 = p2 + bytes_in pending in
    let named = end_named ending end in
    let a = line_read part.Shared (λ text. said_if (is_shared text)) n place heading ((shared ++ last) ++ rest) tt
    (ap (λ t. said_if (is_shared t)) head) in
    let b = words_at (codes "w") 512 n1 p1 shared (last ++ rest) words.shared ws
    (after_words pending ending rest ps.settings ps.each named) in
    let c = words_at (codes "pending") 32 n2 p2 pending (ending ∷ rest) words.pending ps
    (other_setting ending (codes "end") (codes "pending") 32 named refl) in
    let d = line_by_read part_at_end is_end n3 p3 ending rest (ap is_end end) in
    then_read _ _ tt _ _ a
    (lines_then (word_lines (codes "w") (replicate 512 0)) _ n1 p1 shared last rest words.shared _ b
    (lines_then (word_lines (codes "pending") (replicate 32 0)) _ n2 p2 pending (ending ∷ []) rest words.pending _ c
    (then_read _ _ tt _ _ d
    (same_place words (n3 + 1) (n + suc (length (shared ++ last))) (p3 + length ending)
    (place + (length heading + bytes_in (shared ++ last))) rest
    (omega (arith, length-append shared last, length-append pending (ending ∷ [])))
    (omega (arith, bytes-append shared last, bytes-append pending (ending ∷ [])))))))

-- ---- the whole

whole_read : (lines : List (List ℕ)) (it : Report) (is : AreReport lines it)
    → report_lines (from_line 0 0 lines) ≡ Ok (it, behind 0 0 lines [])
unfolding report_lines
whole_read lines it is =
    let last = is.heading ∷ (is.shared ++ (is.pending ++ is.ending ∷ [])) in
    let top = is.first ∷ is.options ∷ is.image ∷ [] in
    let n1 = 0 + 1 + 1 + 1 in
    let p1 = 0 + length is.first + length is.options + length is.image in
    let n2 = n1 + length is.blocks in
    let p2 = p1 + bytes_in is.blocks in
    let n3 = n2 + length last in
    let p3 = p2 + bytes_in last in
    let a = line_read part.Header version_line 0 0 is.first (is.options ∷ is.image ∷ (is.blocks ++ last)) is.version is.is_version in
    let b = line_read part.Options (options_line is.version) 1 (0 + length is.first) is.options (is.image ∷ (is.blocks ++ last)) it.options
    is.are_options in
    let c = line_read part.Image image_line 2 (0 + length is.first + length is.options) is.image (is.blocks ++ last) it.image is.is_image in
    let d : each (block is.version) it.options.threads 0 (from_line n1 p1 (is.blocks ++ last))
    ≡ Ok (it.blocks, behind n1 p1 is.blocks last) =
    subst (λ m. each (block is.version) m 0 (from_line n1 p1 (is.blocks ++ last)) ≡ Ok (it.blocks, behind n1 p1 is.blocks last)) is.one_each
    (blocks_at is.version 0 n1 p1 top is.blocks last it.blocks is.are_blocks refl (omega arith)) in
    let e : shared_words (from_line n2 p2 last) ≡ Ok (it.words, from_line n3 p3 []) =
    ap (λ ls. shared_words (from_line n2 p2 ls)) (sym (append-nil last))
    ∙ shared_at n2 p2 is.heading is.shared is.pending is.ending [] it.words is.is_heading is.are_shared is.are_pending is.is_end in
    subst (λ ls. report_lines (from_line 0 0 ls) ≡ Ok (it, behind 0 0 ls [])) (sym is.whole)
    (then_read _ _ is.version _ _ a (then_read _ _ it.options _ _ b (then_read _ _ it.image _ _ c (then_read _ _ it.blocks _ _ d
    (then_read _ _ it.words _ _ e
    (same_place it n3 (0 + length (top ++ (is.blocks ++ last))) p3 (0 + bytes_in (top ++ (is.blocks ++ last))) []
    (omega (arith, length-append is.blocks last)) (omega (arith, bytes-append is.blocks last))))))))

-- what a file of not too many bytes is
pub short_is : (text : List ℕ) → length text ≤ 1073741824 → report_in text ≡ outcome (report_lines (all_lines text))
unfolding report_in
short_is text size =
    ap (λ b. cond b (Err (record { line = 0; kind = part.TooLong })) (outcome (report_lines (all_lines text))))
    (le-ltb 1073741824 (length text) size)

pub format_read : (text : List ℕ) (it : Report) → IsReportOf text it → report_in text ≡ Ok it
format_read text it is = short_is text is.size ∙ ap outcome (whole_read (lines_of text) it is.lines)
