use Rattle.std.proofs.Common.{◌≡◌, ◌<◌, ◌-◌, ℕ, Some, length}
use Rattle.std.specs.Prelude.{slice_get}
use Rattle.lazy_saving.specs.Code.{place_of}
use Rattle.abi_checker.specs.Marks.{word_in}
use Rattle.abi_checker.proofs.bytes.are_words.Given as goal

abbrev pub invariant-words : goal.invariant-words
invariant-words l = (k word : ℕ) → k < l.index → slice_get l.words k ≡ Some word
    → word_in l.pages.memory (place_of l.address k) ≡ Some word

abbrev pub decreases-words : goal.decreases-words
decreases-words l = length l.words - l.index
