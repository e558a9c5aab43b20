-- What one operation does to the words that the threads share, and what it answers.
-- Source: DDI 0487, C6.2: LDR, STR, SWP, LDADD, LDCLR, LDEOR, LDSET, LDUMAX, LDUMIN and CAS of 64 bits. The
-- pending signals, to which Post and Poll belong, are this emulator's own.
use Rattle.std.specs.Prelude.{ℕ, ◌+◌, ◌-◌, ◌%◌, ◌^◌, ◌<◌, ◌==◌, Bool, true, false, cond}
use Rattle.std.specs.Prelude.{replicate, slice_index, slice_set, max, min, bit_and, bit_or, bit_xor}
use Rattle.sm_types.specs.declared.shared_op.OpKind.{OpKind}
use Rattle.sm_types.specs.declared.shared_op.OpKind.TheVariants.{Load, Store, Swap, Add, Clear, Eor, Set}
use Rattle.sm_types.specs.declared.shared_op.OpKind.TheVariants.{Umax, Umin, Cas, Post, Poll}
use Rattle.sm_types.specs.declared.shared_op.SharedOp.{SharedOp}
use Rattle.sm_types.specs.declared.shared_words.Words.{Words}

-- the word after an operation with the values a and b, from the old word
abbrev pub new_word : OpKind → ℕ → ℕ → ℕ → ℕ
new_word Load a b old = old
new_word Store a b old = a
new_word Swap a b old = a
new_word Add a b old = (old + a) % 2 ^ 64
new_word Clear a b old = bit_and old (2 ^ 64 - 1 - a)
new_word Eor a b old = bit_xor old a
new_word Set a b old = bit_or old a
new_word Umax a b old = max old a
new_word Umin a b old = min old a
new_word Cas a b old = cond (old == a) b old
new_word Post a b old = bit_or old a
new_word Poll a b old = 0

-- its answer, from the old word
abbrev pub answer_of : OpKind → ℕ → ℕ
answer_of Load old = old
answer_of Store old = 0
answer_of Swap old = old
answer_of Add old = old
answer_of Clear old = old
answer_of Eor old = old
answer_of Set old = old
answer_of Umax old = old
answer_of Umin old = old
answer_of Cas old = old
answer_of Post old = old
answer_of Poll old = old

-- Post and Poll are made on the pending signals of a thread, all others on a shared word
abbrev pub is_on_signals : OpKind → Bool
is_on_signals Load = false
is_on_signals Store = false
is_on_signals Swap = false
is_on_signals Add = false
is_on_signals Clear = false
is_on_signals Eor = false
is_on_signals Set = false
is_on_signals Umax = false
is_on_signals Umin = false
is_on_signals Cas = false
is_on_signals Post = true
is_on_signals Poll = true

-- the operation has a word: 0 to 511, or a thread, 0 to 31
abbrev pub HasWord : SharedOp → Type 0
HasWord op = op.place < cond (is_on_signals op.kind) 32 512

-- the word on which an operation is made
unfoldable pub word_at : Words → SharedOp → ℕ
word_at w op = slice_index (cond (is_on_signals op.kind) w.pending w.shared) op.place

-- the words with another one there
unfoldable pub with_word : Words → SharedOp → ℕ → Words
with_word w op value =
    cond (is_on_signals op.kind)
    (record w { pending = slice_set w.pending op.place value })
    (record w { shared = slice_set w.shared op.place value })

-- the words after an operation
unfoldable pub applied : Words → SharedOp → Words
applied w op = with_word w op (new_word op.kind op.a op.b (word_at w op))

-- what the operation answers
unfoldable pub answer_to : Words → SharedOp → ℕ
answer_to w op = answer_of op.kind (word_at w op)

-- the words before the first operation
unfoldable pub zero_words : Words
zero_words = record { shared = replicate 512 0; pending = replicate 32 0 }
