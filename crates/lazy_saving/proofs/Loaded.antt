-- What loads read of a block.
use Rattle.std.proofs.Common.{◌≡◌, ℕ, ◌+◌, ◌%◌, ◌^◌, List, Some, take, drop, ap, sym, ◌∙◌, arith, subst}
use Rattle.sm_types.specs.Bytes.{little_number}
use Rattle.paged_memory.specs.Memory.{AddressSpace, bytes_with}
use Rattle.mem_access.specs.Values.{number_or_zero}
use Rattle.mem_access.specs.Runs.{number_in}
use Rattle.lazy_saving.specs.Block.{IsBlock, IsLoaded, buffer_of, slices_of}
use Rattle.lazy_saving.proofs.Reading as read

loaded_number : (m : AddressSpace) (a n : ℕ) (bytes : List ℕ) → bytes_with 4 m a n ≡ Some bytes → number_in m a n ≡ little_number bytes
unfolding number_in
loaded_number m a n bytes e = ap number_or_zero e

pub block_loaded : (m : AddressSpace) (size b : ℕ) (bytes : List ℕ) → IsBlock m size b bytes
    → IsLoaded m b (buffer_of bytes) (slices_of bytes)
block_loaded m size b bytes h =
    let low = h.small in
    let first : (b + 0) % 2 ^ 64 ≡ b = omega (arith, low) in
    record {
      address = ap (λ a. number_in m a 8) (sym first)
          ∙ loaded_number m ((b + 0) % 2 ^ 64) 8 (take 8 bytes) (read.buffer_read m size b bytes h);
      count = loaded_number m ((b + 8) % 2 ^ 64) 2 (take 2 (drop 8 bytes)) (read.slices_read m size b bytes h);
      low_zeros = loaded_number m ((b + 10) % 2 ^ 64) 2 (take 2 (drop 10 bytes)) (read.low_read m size b bytes h)
          ∙ read.low_zeros m size b bytes h;
      high_zeros = loaded_number m ((b + 12) % 2 ^ 64) 4 (take 4 (drop 12 bytes)) (read.high_read m size b bytes h)
          ∙ read.high_zeros m size b bytes h;
    }
