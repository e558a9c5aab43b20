-- An operation on the words, as the cells see it.
use Rattle.std.proofs.Common.{◌≡◌, ℕ, ◌+◌, ◌<◌, Bool, true, false, cond, List, [], ◌∷◌, ◌++◌}
use Rattle.std.proofs.Common.{length, take, drop, set, replicate, refl, sym, ap, ◌∙◌, arith}
use Rattle.std.specs.Prelude.{slice_index, slice_set}
use Rattle.std.proofs.lemmas.List.{get_or-append-add, get_or_append_left, set-append_left, set-append_right}
use Rattle.std.proofs.lemmas.List.{length-set, length-replicate}
use Rattle.std.proofs.Math.Seq.{take-append_seam, drop-append_seam, take-length}
use Rattle.sm_types.specs.declared.shared_op.SharedOp.{SharedOp}
use Rattle.sm_types.specs.declared.shared_words.Entry.{Entry}
use Rattle.sm_types.specs.declared.shared_words.Words.{Words}
use Rattle.shared_region.specs.WordRule.{HasWord, is_on_signals, new_word, word_at, with_word, applied, answer_of, answer_to}
use Rattle.shared_region.specs.WordRule.{zero_words}
use Rattle.shared_region.specs.History.{words_after, ends_in}
use Rattle.shared_table.specs.Cells.{cells_of, cell_of}

-- so many shared words and pending signals
pub record HasLengths (words : Words) : Type 0 where
  pub shared : length words.shared ≡ 512
  pub pending : length words.pending ≡ 32

-- the item at place i of one of two lists, in the list of both
either_at : (second : Bool) (xs ys : List ℕ) (n i : ℕ) → length xs ≡ n → i < cond second 32 n
    → slice_index (xs ++ ys) (cond second (n + i) i) ≡ slice_index (cond second ys xs) i
either_at true xs ys n i long lt = ap (λ k. slice_index (xs ++ ys) (k + i)) (sym long) ∙ get_or-append-add xs ys i 0
either_at false xs ys n i long lt = get_or_append_left xs ys 0 i (omega arith)

-- the cell of an operation holds its word
cell_word : (w : Words) (op : SharedOp) → HasLengths w → HasWord op → slice_index (cells_of w) (cell_of op) ≡ word_at w op
unfolding word_at
cell_word w op long has = either_at (is_on_signals op.kind) w.shared w.pending 512 op.place long.shared has

-- the words with one of them changed, of the pending signals or the shared ones
abbrev changed : Bool → Words → ℕ → ℕ → Words
changed signals w i v =
    cond signals (record w { pending = slice_set w.pending i v }) (record w { shared = slice_set w.shared i v })

changed_cells : (signals : Bool) (w : Words) (n i v : ℕ) → length w.shared ≡ n → i < cond signals 32 n
    → slice_set (cells_of w) (cond signals (n + i) i) v ≡ cells_of (changed signals w i v)
changed_cells true w n i v long lt =
    set-append_right w.shared w.pending n (n + i) v long (omega arith)
    ∙ ap (λ k. w.shared ++ set w.pending k v) (omega arith)
changed_cells false w n i v long lt = set-append_left w.shared w.pending i v (omega arith)

-- a write to the cell of an operation writes its word
cell_set : (w : Words) (op : SharedOp) (v : ℕ) → HasLengths w → HasWord op
    → slice_set (cells_of w) (cell_of op) v ≡ cells_of (with_word w op v)
unfolding with_word
cell_set w op v long has = changed_cells (is_on_signals op.kind) w 512 op.place v long.shared has

changed_lengths : (signals : Bool) (w : Words) (i v : ℕ) → HasLengths w → HasLengths (changed signals w i v)
changed_lengths true w i v long = record { shared = long.shared; pending = length-set w.pending i v ∙ long.pending }
changed_lengths false w i v long = record { shared = length-set w.shared i v ∙ long.shared; pending = long.pending }

applied_lengths : (w : Words) (op : SharedOp) → HasLengths w → HasLengths (applied w op)
unfolding applied with_word
applied_lengths w op long =
    changed_lengths (is_on_signals op.kind) w op.place (new_word op.kind op.a op.b (word_at w op)) long

after_lengths : (w : Words) (entries : List Entry) → HasLengths w → HasLengths (words_after w entries)
unfolding words_after
after_lengths w [] long = long
after_lengths w (e ∷ es) long = after_lengths (applied w e.event.op) es (applied_lengths w e.event.op long)

zero_lengths : HasLengths zero_words
unfolding zero_words
zero_lengths = record { shared = length-replicate {A = ℕ} 512 0; pending = length-replicate {A = ℕ} 32 0 }

-- each history ends in 512 shared words and 32 pending signals
pub end_lengths : (history : List Entry) → HasLengths (ends_in history)
end_lengths history = after_lengths zero_words history zero_lengths

-- what a step on the operation's cell makes of the cells is what the word rule makes of the words
pub cell_applied : (w : Words) (cells : List ℕ) (op : SharedOp) → HasLengths w → HasWord op → cells_of w ≡ cells
    → slice_set cells (cell_of op) (new_word op.kind op.a op.b (slice_index cells (cell_of op))) ≡ cells_of (applied w op)
unfolding applied
cell_applied w cells op long has is =
    ap (λ l. slice_set l (cell_of op) (new_word op.kind op.a op.b (slice_index l (cell_of op)))) (sym is)
    ∙ ap (λ n. slice_set (cells_of w) (cell_of op) (new_word op.kind op.a op.b n)) (cell_word w op long has)
    ∙ cell_set w op (new_word op.kind op.a op.b (word_at w op)) long has

-- and what it finds there gives the answer of the word rule
pub cell_answer : (w : Words) (cells : List ℕ) (op : SharedOp) → HasLengths w → HasWord op → cells_of w ≡ cells
    → answer_of op.kind (slice_index cells (cell_of op)) ≡ answer_to w op
unfolding answer_to
cell_answer w cells op long has is =
    ap (λ l. answer_of op.kind (slice_index l (cell_of op))) (sym is) ∙ ap (answer_of op.kind) (cell_word w op long has)

pub zero_cells : cells_of zero_words ≡ replicate 544 0
unfolding zero_words
zero_cells = refl

cells_shared : (w : Words) (cells : List ℕ) → HasLengths w → cells_of w ≡ cells → w.shared ≡ take 512 cells
cells_shared w cells long is =
    sym (take-append_seam w.shared w.pending) ∙ ap (λ n. take n (cells_of w)) long.shared ∙ ap (take 512) is

cells_pending : (w : Words) (cells : List ℕ) → HasLengths w → cells_of w ≡ cells → w.pending ≡ drop 512 cells
cells_pending w cells long is =
    sym (drop-append_seam w.shared w.pending) ∙ ap (λ n. drop n (cells_of w)) long.shared ∙ ap (drop 512) is

-- the words of some cells are those that are copied from them
pub cells_parts : (w into : Words) (cells : List ℕ) → HasLengths w → cells_of w ≡ cells
    → into.shared ≡ take 512 cells → into.pending ≡ take 32 (drop 512 cells) → w ≡ into
cells_parts w into cells long is shared pending =
    let whole : take 32 w.pending ≡ w.pending = ap (λ n. take n w.pending) (sym long.pending) ∙ take-length w.pending in
    let a : w.shared ≡ into.shared = cells_shared w cells long is ∙ sym shared in
    let b : w.pending ≡ into.pending = sym whole ∙ ap (take 32) (cells_pending w cells long is) ∙ sym pending in
    λ i. record { shared = a i; pending = b i }
