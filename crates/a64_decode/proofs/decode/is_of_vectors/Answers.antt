use Rattle.std.proofs.Common.{◌≡◌, ℕ, ◌==◌, ◌&&◌, ◌||◌, Bool, true, refl, ap, ◌∙◌, sym}
use Rattle.std.proofs.Common.{eqb-true, bit_and, slice_get, Some}
use Rattle.std.specs.List.{list_all}
use Rattle.std.proofs.lemmas.Bool.{and_parts}
use Rattle.plain_lemmas.proofs.Tests.{not_both, or_elim}
use Rattle.plain_lemmas.proofs.Lists.{list_all-get}
use Rattle.insn_forms.specs.declared.line.Line.{Line}
use Rattle.insn_forms.proofs.Tables.{differ, not_alike}
use Rattle.a64_table.specs.declared.operation.Operation.{Operation}
use Rattle.a64_table.specs.declared.rows.TheConstants.{SCALAR_LINES}
use Rattle.a64_decode.proofs.decode.is_of_vectors.Goals as goal

unfoldable is_udf : Line Operation → Bool
is_udf line = (line.mask == 0xFFFF0000) && (line.value == 0)

-- the line is UDF's, or none of the words that it matches has the three bits clear
unfoldable stands_apart : Line Operation → Bool
stands_apart line = is_udf line || differ 0x1A000000 0 line.mask line.value

all_stand_apart : list_all stands_apart SCALAR_LINES ≡ true
unfolding stands_apart is_udf differ
all_stand_apart = refl

-- a line of the table that matches a word which has the three bits clear is UDF's
clear_is_udf : (word i : ℕ) (line : Line Operation) → bit_and word 0x1A000000 ≡ 0 → slice_get SCALAR_LINES i ≡ Some line
    → bit_and word line.mask ≡ line.value → bit_and word 0xFFFF0000 ≡ 0
unfolding stands_apart is_udf
clear_is_udf word i line z g n =
    or_elim (is_udf line) (differ 0x1A000000 0 line.mask line.value) (list_all-get stands_apart SCALAR_LINES i line all_stand_apart g)
    (λ u.
    let p = and_parts (line.mask == 0xFFFF0000) (line.value == 0) u in
    ap (bit_and word) (sym (eqb-true line.mask 0xFFFF0000 p.0)) ∙ n ∙ eqb-true line.value 0 p.1)
    (λ d. absurd (not_alike word 0x1A000000 0 line.mask line.value d z n))

pub returns-then-matches : goal.returns-then-matches
returns-then-matches c t i line g n =
    not_both c.matches-then-matches.result t
    (c.matches-then-matches.ensures.1 (clear_is_udf c.args.word i line (c.matches.ensures.0 c.if-matches.true) g n))
