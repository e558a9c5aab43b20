-- The addresses of the loads, in the order in which they are compared.
use Rattle.std.specs.Prelude.{◌≢◌, ℕ, ◌+◌, ◌-◌, ◌/◌, ◌<◌, ◌≤◌, ◌^◌, Bool, List, get_or, length, Option, Some}
use Rattle.std.specs.Prelude.{None, cond, ◌&&◌, nat_le}
use Rattle.std.specs.List.{list_any}
use Rattle.sm_types.specs.declared.limits.TheConstants.{PAGE_SIZE}
use Rattle.elf_headers.specs.declared.spans.Span.{Span}
use Rattle.elf_headers.specs.Below.{answers_below, count_below}
use Rattle.elf_headers.specs.Header.{program_header_count}
use Rattle.elf_headers.specs.Segments.{segment_of, is_load}

-- the addresses of program header number i, where it is a load
unfoldable pub span_at : List ℕ → ℕ → Option Span
span_at file i =
    cond (is_load (segment_of file i)) (Some (record {
      address = (segment_of file i).address;
      end =
          (segment_of file i).address + (segment_of file i).memory_size;
      header = i;
    })) None

-- the addresses of the loads, in the order of their program headers
unfoldable pub spans_of : List ℕ → List Span
spans_of file = answers_below (span_at file) (program_header_count file)

-- a span has an address, and ends where an address space of 47 bits does at the latest
pub record IsLow (s : Span) : Type 0 where
  pub some : s.address < s.end
  pub low : s.end ≤ 2 ^ 47

-- no span of a program header below that number has an address in common with another
abbrev pub IsClearBelow : List Span → ℕ → Type 0
IsClearBelow spans least =
    (p q : ℕ) (d : Span) → p < length spans → q < length spans → p ≢ q
    → (get_or spans q d).address < (get_or spans p d).end
    → (get_or spans p d).address < (get_or spans q d).end → least ≤ (get_or spans p d).header

-- the span has a byte in the page of that number
abbrev pub touches_page : Span → ℕ → Bool
touches_page s n = nat_le (s.address / PAGE_SIZE) n && nat_le n ((s.end - 1) / PAGE_SIZE)

-- how many of the pages below a number the spans touch
abbrev pub pages_below : List Span → ℕ → ℕ
pages_below spans limit = count_below (λ n. list_any (λ s. touches_page s n) spans) limit
