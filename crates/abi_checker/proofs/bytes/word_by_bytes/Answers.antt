use Rattle.std.proofs.Common.{rules, ◌≡◌, ◌∙◌, sym, refl, None}
use Rattle.abi_checker.proofs.Words.{word_is, no_first, no_second, no_third, no_fourth, all_four}
use Rattle.abi_checker.proofs.bytes.word_by_bytes.Goals as goal

pub returns-in_err-byte_in : goal.returns-in_err-byte_in
returns-in_err-byte_in c =
    let none : c.from_residual.result ≡ None = search rules in
    none ∙ no_first _ _ _
    ∙ word_is c.args.pages.now.memory c.args.address _ _ _ _ c.ranges.address.fits (sym c.in_err-byte_in.was ∙ c.byte_in.ensures) refl refl
    refl

pub returns-in_err-byte_in-2 : goal.returns-in_err-byte_in-2
returns-in_err-byte_in-2 c =
    let none : c.from_residual-in_err-byte_in-2.result ≡ None = search rules in
    none ∙ no_second _ _ _
    ∙ word_is c.args.pages.now.memory c.args.address _ _ _ _ c.ranges.address.fits (sym c.in_ok-byte_in.was ∙ c.byte_in.ensures)
    (sym c.in_err-byte_in-2.was ∙ c.byte_in-2.ensures) refl refl

pub returns-in_err-byte_in-3 : goal.returns-in_err-byte_in-3
returns-in_err-byte_in-3 c =
    let none : c.from_residual-in_err-byte_in-3.result ≡ None = search rules in
    none ∙ no_third _ _ _
    ∙ word_is c.args.pages.now.memory c.args.address _ _ _ _ c.ranges.address.fits (sym c.in_ok-byte_in.was ∙ c.byte_in.ensures)
    (sym c.in_ok-byte_in-2.was ∙ c.byte_in-2.ensures) (sym c.in_err-byte_in-3.was ∙ c.byte_in-3.ensures) refl

pub returns-in_err-byte_in-4 : goal.returns-in_err-byte_in-4
returns-in_err-byte_in-4 c =
    let none : c.from_residual-in_err-byte_in-4.result ≡ None = search rules in
    none ∙ no_fourth _ _ _
    ∙ word_is c.args.pages.now.memory c.args.address _ _ _ _ c.ranges.address.fits (sym c.in_ok-byte_in.was ∙ c.byte_in.ensures)
    (sym c.in_ok-byte_in-2.was ∙ c.byte_in-2.ensures) (sym c.in_ok-byte_in-3.was ∙ c.byte_in-3.ensures)
    (sym c.in_err-byte_in-4.was ∙ c.byte_in-4.ensures)

pub returns : goal.returns
returns c =
    all_four c.from_le_bytes.result _ _ _ _ c.from_le_bytes.ensures
    ∙ word_is c.args.pages.now.memory c.args.address _ _ _ _ c.ranges.address.fits (sym c.in_ok-byte_in.was ∙ c.byte_in.ensures)
    (sym c.in_ok-byte_in-2.was ∙ c.byte_in-2.ensures) (sym c.in_ok-byte_in-3.was ∙ c.byte_in-3.ensures)
    (sym c.in_ok-byte_in-4.was ∙ c.byte_in-4.ensures)
