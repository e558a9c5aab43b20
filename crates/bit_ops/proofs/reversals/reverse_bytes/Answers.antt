use Rattle.std.proofs.Common.{◌≡◌, ◌∙◌, ◌%◌, ◌<◌, ap, sym, subst, true, ◌⊎◌, inl, inr, ℕ}
use Rattle.bit_ops.specs.Reversals.{reversed_bytes}
use Rattle.bit_ops.specs.Sums.{word_size}
use Rattle.bit_ops.proofs.Bytes.{halfwords-low, words-low, swapped, bytes-lt}
use Rattle.bit_ops.proofs.reversals.reverse_bytes.Goals as goal

pub returns-then-group-eq2-clause-value : goal.returns-then-group-eq2-clause-value
returns-then-group-eq2-clause-value c =
    c.reverse_halfwords.ensures ∙ halfwords-low c.args.wide c.low_word-word.result c.low_word-word.ensures.small
    ∙ ap (reversed_bytes 2 c.args.wide) c.low_word-word.ensures.value
    ∙ ap (λ g. reversed_bytes g c.args.wide (c.args.value % word_size c.args.wide)) (sym c.if-group-eq2.true)

pub returns-then-group-eq2-clause-word : goal.returns-then-group-eq2-clause-word
returns-then-group-eq2-clause-word c =
    subst (λ n. n < word_size c.args.wide) (sym
    (c.reverse_halfwords.ensures ∙ halfwords-low c.args.wide c.low_word-word.result c.low_word-word.ensures.small))
    (bytes-lt 2 c.args.wide c.low_word-word.result)

pub returns-then-group-eq4-clause-value : goal.returns-then-group-eq4-clause-value
returns-then-group-eq4-clause-value c =
    c.reverse_words.ensures ∙ words-low c.args.wide c.low_word-word.result c.low_word-word.ensures.small
    ∙ ap (reversed_bytes 4 c.args.wide) c.low_word-word.ensures.value
    ∙ ap (λ g. reversed_bytes g c.args.wide (c.args.value % word_size c.args.wide)) (sym c.if-group-eq4.true)

pub returns-then-group-eq4-clause-word : goal.returns-then-group-eq4-clause-word
returns-then-group-eq4-clause-word c =
    subst (λ n. n < word_size c.args.wide) (sym
    (c.reverse_words.ensures ∙ words-low c.args.wide c.low_word-word.result c.low_word-word.ensures.small))
    (bytes-lt 4 c.args.wide c.low_word-word.result)

last : (g : ℕ) → ((g ≡ 2) ⊎ ((g ≡ 4) ⊎ (g ≡ 8))) → (g ≡ 2 → ⊥) → (g ≡ 4 → ⊥) → g ≡ 8
last g (inl a) p q = absurd (p a)
last g (inr (inl a)) p q = absurd (q a)
last g (inr (inr a)) p q = a

pub returns-else-group-eq4-clause-value : goal.returns-else-group-eq4-clause-value
returns-else-group-eq4-clause-value c =
    let eight = last c.args.group c.requires.group c.if-group-eq2.false c.if-group-eq4.false in
    c.swap_bytes.ensures ∙ swapped c.low_word-word.result ∙ ap (reversed_bytes 8 true) c.low_word-word.ensures.value
    ∙ ap (λ w. reversed_bytes 8 w (c.args.value % word_size c.args.wide)) (sym (c.requires.fits eight))
    ∙ ap (λ g. reversed_bytes g c.args.wide (c.args.value % word_size c.args.wide)) (sym eight)
