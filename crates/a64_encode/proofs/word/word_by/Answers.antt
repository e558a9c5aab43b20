use Rattle.std.proofs.Common.{◌≡◌, ℕ, List, sym, ap, ◌∙◌, Some}
use Rattle.std.specs.Prelude.{slice_get}
use Rattle.std.specs.List.{list_all}
use Rattle.insn_forms.specs.declared.line.Line.{Line}
use Rattle.insn_forms.specs.Fields.{is_field}
use Rattle.insn_forms.specs.Forms.{word_in}
use Rattle.insn_forms.proofs.Tables.{line-fields}
use Rattle.insn_forms.proofs.Deciding.{no_parts, no_line_of, no_word, no_fit, word}
use Rattle.a64_encode.specs.Lines.{IsListed}
use Rattle.a64_encode.proofs.word.word_by.Goals as goal

-- the place of a line that was found among the lines of a table
there : {O : Type 0} {number : O → ℕ} {lines all : List (Line O)} {n : ℕ} {line : Line O} → lines ≡ all
    → (h : IsListed number lines n line) → slice_get all h.place ≡ Some line
there e h = ap (λ l. slice_get l h.place) (sym e) ∙ h.listed

pub returns-in_default : goal.returns-in_default
returns-in_default g c =
    let t = g.O.TableOperation in
    no_parts t.table t.parts g.met.O.TableOperation.is_table c.args.insn.now c.in_default.ensures

pub returns-in_default-line_of : goal.returns-in_default-line_of
returns-in_default-line_of g c =
    let t = g.O.TableOperation in
    no_line_of t.table t.parts g.met.O.TableOperation.is_table c.args.insn.now c.in-Some.parts c.in-Some.ensures
    (λ i r k e. c.in_default-line_of.ensures i r (ap (λ l. slice_get l i) c.lines.ensures ∙ k) (ap t.number e ∙ sym c.number_of.ensures))

pub word_in-requires : goal.word_in-requires
word_in-requires g c =
    let t = g.O.TableOperation in
    let h = c.in-Some-line_of.ensures in
    ap (list_all is_field) c.fields_of.ensures
    ∙ line-fields t.table t.parts g.met.O.TableOperation.is_table h.place c.in-Some-line_of.line.now (there c.lines.ensures h)

pub returns-in_default-word_in : goal.returns-in_default-word_in
returns-in_default-word_in g c =
    let t = g.O.TableOperation in
    let h = c.in-Some-line_of.ensures in
    no_word t.table t.parts g.met.O.TableOperation.is_table c.args.insn.now c.in-Some.parts c.in-Some.ensures h.place
    c.in-Some-line_of.line.now (there c.lines.ensures h)
    (g.met.O.TableOperation.same_operation _ _ (h.same ∙ c.number_of.ensures))
    (c.in_default-word_in.ensures ∙ ap (λ fs. word_in c.in-Some-line_of.line.now.value fs c.in-Some.parts.numbers) c.fields_of.ensures)

pub returns-then-fits : goal.returns-then-fits
returns-then-fits g c =
    let t = g.O.TableOperation in
    let h = c.in-Some-line_of.ensures in
    word t.table t.parts g.met.O.TableOperation.is_table c.args.insn.now c.in-Some.parts c.in-Some.ensures h.place
    c.in-Some-line_of.line.now (there c.lines.ensures h)
    (g.met.O.TableOperation.same_operation _ _ (h.same ∙ c.number_of.ensures)) _
    (c.in-Some-word_in.ensures ∙ ap (λ fs. word_in c.in-Some-line_of.line.now.value fs c.in-Some.parts.numbers) c.fields_of.ensures)
    (sym c.fits.ensures ∙ c.if-fits.true)

pub returns-else-fits : goal.returns-else-fits
returns-else-fits g c =
    let t = g.O.TableOperation in
    let h = c.in-Some-line_of.ensures in
    no_fit t.table t.parts g.met.O.TableOperation.is_table c.args.insn.now c.in-Some.parts c.in-Some.ensures h.place
    c.in-Some-line_of.line.now (there c.lines.ensures h)
    (g.met.O.TableOperation.same_operation _ _ (h.same ∙ c.number_of.ensures)) _
    (c.in-Some-word_in.ensures ∙ ap (λ fs. word_in c.in-Some-line_of.line.now.value fs c.in-Some.parts.numbers) c.fields_of.ensures)
    (sym c.fits.ensures ∙ c.if-fits.false)
