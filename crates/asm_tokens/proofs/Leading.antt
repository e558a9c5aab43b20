-- The slots from that of its hash on lead a text to its index.
use Rattle.std.proofs.Common.{◌≡◌, ℕ, zero, suc, ◌+◌, ◌<◌, ◌≤◌, Bool, true, false, ◌==◌, ◌%◌, cond, nat_lt, List, [], ◌∷◌, Option, Some}
use Rattle.std.proofs.Common.{None, length, get_or, refl, sym, ap, ◌∙◌, arith, eqb-true, lt-ltb, ltb-true, inl, inr}
use Rattle.std.specs.Prelude.{slice_index}
use Rattle.std.specs.List.{position_or_len}
use Rattle.std.specs.Str.{bytes_eq}
use Rattle.std.proofs.lemmas.Bool.{and_parts, false_from_ne_true, cases_lt, both_ways, le-ltb, cond-true, cond-false}
use Rattle.std.proofs.lemmas.List.Sums.{passes_at_first, fails_before_first}
use Rattle.std.proofs.lemmas.Option.{slice_get-get_or}
use Rattle.std.proofs.lemmas.Slice.Eq.{bytes_eq-Decides}
use Rattle.insn_text.specs.declared.item.Text.{Text}
use Rattle.insn_text.specs.declared.keywords.TheConstants.{KEYWORDS, MNEMONICS}
use Rattle.insn_text.specs.Texts.{text_in, text_at}
use Rattle.asm_tokens.specs.declared.slots.TheConstants.{FACTOR, KEYWORD_SLOTS, MNEMONIC_SLOTS}
use Rattle.asm_tokens.specs.Tokens.{index_in}
use Rattle.asm_tokens.specs.Slots.{hash_after, index_if, first_of, probed, index_by, is_index, leads}

words_lead : leads KEYWORDS KEYWORD_SLOTS FACTOR 512 0 KEYWORDS ≡ true
unfolding leads index_by probed index_if text_in
words_lead = refl

names_lead : leads MNEMONICS MNEMONIC_SLOTS FACTOR 1024 0 MNEMONICS ≡ true
unfolding leads index_by probed index_if text_in
names_lead = refl

is_index_at : (index : ℕ) (o : Option ℕ) → is_index index o ≡ true → o ≡ Some index
is_index_at index None e = cc
is_index_at index (Some found) e = ap Some (eqb-true found index e)

module _ (texts : List Text) (slots : List ℕ) (factor size : ℕ) where
  leads-at : (index : ℕ) (ts : List Text) (k : ℕ) (d : Text) → leads texts slots factor size index ts ≡ true → k < length ts
      → index_by texts slots factor size (text_in (Some (get_or ts k d))) ≡ Some (index + k)
  unfolding leads
  leads-at index [] k d e lt = absurd (omega arith)
  leads-at index (t ∷ ts) zero d e lt =
      let same : index ≡ index + 0 = omega arith in
      is_index_at index _ (and_parts _ (leads texts slots factor size (index + 1) ts) e).0 ∙ ap Some same
  leads-at index (t ∷ ts) (suc k) d e lt =
      let same : index + 1 + k ≡ index + suc k = omega arith in
      leads-at (index + 1) ts k d (and_parts _ (leads texts slots factor size (index + 1) ts) e).1 (omega arith) ∙ ap Some same

  module _ (text : List ℕ) where
    abbrev is_that : Text → Bool
    is_that t = bytes_eq (text_in (Some t)) text

    none : Text
    none = record { bytes = []; length = 0 }

    text-at : (k : ℕ) → k < length texts → text_at texts k ≡ text_in (Some (get_or texts k none))
    text-at k lt = ap text_in (slice_get-get_or texts k none lt)

    stands : (n : ℕ) → leads texts slots factor size 0 texts ≡ true → n < length texts → is_that (get_or texts n none) ≡ true
        → index_by texts slots factor size text ≡ Some n
    stands n lead lt here =
        let same : text_in (Some (get_or texts n none)) ≡ text = (bytes_eq-Decides _ text).0 here in
        ap (index_by texts slots factor size) (sym same) ∙ leads-at 0 texts n none lead lt ∙ ap Some (omega arith)

    not_at : length texts ≤ position_or_len is_that texts → (k : ℕ) → index_if texts k text ≡ None
    unfolding index_if
    not_at le k = cond-false _ (Some k) None (false_from_ne_true _ (λ e.
        let p = and_parts (nat_lt k (length texts)) (bytes_eq (text_at texts k) text) e in
        let lt : k < length texts = ltb-true k (length texts) p.0 in
        both_ways (is_that (get_or texts k none)) (fails_before_first is_that texts k none (omega arith))
        (ap (λ ys. bytes_eq ys text) (sym (text-at k lt)) ∙ p.1)))

    none_either : (b : Bool) (first second : Option ℕ) → first ≡ None → second ≡ None → cond b None (first_of first second) ≡ None
    none_either true first second e f = refl
    none_either false None second e f = f
    none_either false (Some index) second e f = cc

    nowhere : length texts ≤ position_or_len is_that texts → (steps at : ℕ) → probed texts slots size text steps at ≡ None
    unfolding probed
    nowhere le zero at = refl
    nowhere le (suc steps) at =
        none_either (slice_index slots at == 65535) _ _ (not_at le (slice_index slots at)) (nowhere le steps ((at + 1) % size))

    index_by-index_in : leads texts slots factor size 0 texts ≡ true → index_by texts slots factor size text ≡ index_in texts text
    unfolding index_in index_by
    index_by-index_in lead =
        let n = position_or_len is_that texts in
        elim (cases_lt n (length texts)) [
          | inl lt ↦ stands n lead lt (passes_at_first is_that texts none lt) ∙ sym (cond-true _ (Some n) None (lt-ltb n (length texts) lt))
          | inr le ↦ nowhere le 16 (hash_after factor size 0 text) ∙ sym (cond-false _ (Some n) None (le-ltb n (length texts) le))
        ]

pub keyword_index : (text : List ℕ) → index_by KEYWORDS KEYWORD_SLOTS FACTOR 512 text ≡ index_in KEYWORDS text
keyword_index text = index_by-index_in KEYWORDS KEYWORD_SLOTS FACTOR 512 text words_lead

pub mnemonic_index : (text : List ℕ) → index_by MNEMONICS MNEMONIC_SLOTS FACTOR 1024 text ≡ index_in MNEMONICS text
mnemonic_index text = index_by-index_in MNEMONICS MNEMONIC_SLOTS FACTOR 1024 text names_lead
