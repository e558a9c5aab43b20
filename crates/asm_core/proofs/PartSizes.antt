-- Whether a line fits into its part.
use Rattle.std.proofs.Common.{◌≡◌, ℕ, ◌+◌, ◌<◌, ◌≤◌, true, false, ◌||◌, nat_lt, ap, ◌∙◌}
use Rattle.std.proofs.lemmas.Bool.{or_from, or_right, or_left, le-ltb, lt-ltb}
use Rattle.sm_types.specs.declared.object.Section.{Section}
use Rattle.sm_types.specs.declared.object.Section.TheVariants.{Text, Data}
use Rattle.asm_parser.specs.Statements.{Says}
use Rattle.asm_core.specs.declared.location_counter.LocationCounter.{LocationCounter}
use Rattle.asm_core.specs.Layout.{here_in, here, grown_in, size_of, part_after, counter_after}
use Rattle.asm_core.specs.Limits.{IsInLimits}
use Rattle.asm_core.specs.Faults.{is_too_large}

large_in : (part : Section) (p : LocationCounter) (size : ℕ) → 4194304 < here_in part p + size
    → (nat_lt 4194304 (grown_in part p size).text_size || nat_lt 4194304 (grown_in part p size).data_size) ≡ true
large_in Text p size l = or_left _ _ (lt-ltb 4194304 (p.text_size + size) l)
large_in Data p size l = or_right (nat_lt 4194304 p.text_size) _ (lt-ltb 4194304 (p.data_size + size) l)

fits_in : (part : Section) (p : LocationCounter) (size : ℕ) → IsInLimits p → here_in part p + size ≤ 4194304
    → IsInLimits (grown_in part p size)
fits_in Text p size h l = record { text = l; data_part = h.data_part }
fits_in Data p size h l = record { text = h.text; data_part = l }

pub too_large : (p : LocationCounter) (says : Says) → 4194304 < here p + size_of says (here p) → is_too_large p says ≡ true
unfolding is_too_large counter_after
too_large p says l = large_in p.part p (size_of says (here p)) l

pub in_limits : (p : LocationCounter) (says : Says) → IsInLimits p → here p + size_of says (here p) ≤ 4194304
    → IsInLimits (counter_after p says)
unfolding counter_after
in_limits p says h l = let g = fits_in p.part p (size_of says (here p)) h l in record { text = g.text; data_part = g.data_part }

pub not_too_large : (p : LocationCounter) (says : Says) → IsInLimits (counter_after p says) → is_too_large p says ≡ false
unfolding is_too_large
not_too_large p says h =
    or_from _ _ (le-ltb 4194304 (counter_after p says).text_size h.text) (le-ltb 4194304 (counter_after p says).data_size h.data_part)

-- a place that has grown by a line's bytes, with the part that the line leaves
pub grown_counter : (p after : LocationCounter) (says : Says) (size : ℕ) (part : Section) → size ≡ size_of says (here p)
    → after ≡ grown_in p.part p size → part ≡ part_after says p.part
    → ◌≡◌ {A = LocationCounter} (record { part = part; text_size = after.text_size; data_size = after.data_size }) (counter_after p says)
unfolding counter_after
grown_counter p after says size part e f g =
    let h : after ≡ grown_in p.part p (size_of says (here p)) = f ∙ ap (grown_in p.part p) e in λ i. record (h i) { part = g i }
