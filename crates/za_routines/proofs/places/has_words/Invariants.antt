use Rattle.std.proofs.Common.{◌≡◌, ◌<◌, ◌-◌, ℕ, Some, length}
use Rattle.std.specs.Prelude.{slice_get}
use Rattle.paged_memory.specs.Memory.{word_at}
use Rattle.lazy_saving.specs.Code.{place_of}
use Rattle.za_routines.proofs.places.has_words.Given as goal

abbrev pub invariant-words : goal.invariant-words
invariant-words l = (k word : ℕ) → k < l.index → slice_get l.words k ≡ Some word
    → word_at l.pages.memory (place_of l.address k) ≡ Some word

abbrev pub decreases-words : goal.decreases-words
decreases-words l = length l.words - l.index
