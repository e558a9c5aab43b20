use Rattle.std.proofs.Common.{◌≡◌, Option, Some, None, ℕ, get_or, sym, ◌∙◌, ap, refl, add-one, cond, ◌++◌}
use Rattle.sm_types.specs.declared.object.Content.{Content}
use Rattle.sm_types.specs.Objects.{is_same}
use Rattle.elf_headers.specs.Below.{answers}
use Rattle.elf_headers.proofs.Below.{answers_below-zero, answers_below-next}
use Rattle.elf_writer.specs.TextMappings.{text_mapping_at, said_before, word_address}
use Rattle.elf_writer.specs.Slots.{slots_say, says_word}
use Rattle.elf_writer.proofs.Slots.{slots_say-at}
use Rattle.elf_writer.proofs.mapping_symbols.list_mappings.Goals as goal

pub loop-n-init : goal.loop-n-init
loop-n-init c =
    record {
      before = refl;
      mappings = c.new-mappings.ensures.items
          ∙ sym (answers_below-zero (text_mapping_at (slots_say c.args.slots.now)));
    }

text_mapping_at-is : (says : ℕ → Content) (n : ℕ) (before : Option Content) (now : Content) → before ≡ said_before says n → now ≡ says n
    → cond (is_same before now) None (Some (record { address = word_address n; content = now })) ≡ text_mapping_at says n
unfolding text_mapping_at
text_mapping_at-is says n before now b e = λ i. cond (is_same (b i) (e i)) None (Some (record { address = word_address n; content = e i }))

pub loop-n-preserved : goal.loop-n-preserved
loop-n-preserved c =
    let now : c.says_word-content.result ≡ slots_say c.args.slots.now c.loop-n.n =
    c.says_word-content.ensures ∙ (λ i. says_word (c.loop-n.invariant.before i) (get_or c.args.slots.now c.loop-n.n None))
    ∙ sym (slots_say-at c.args.slots.now c.loop-n.n) in
    record {
      before = rw add-one (ap Some now);
      mappings =
          c.in_ok-push_mapping.ensures ∙ (λ i. c.loop-n.invariant.mappings i
          ++ answers ((c.mapping_where.ensures ∙ text_mapping_at-is (slots_say c.args.slots.now) c.loop-n.n c.loop-n.before
          c.says_word-content.result
          c.loop-n.invariant.before now) i)) ∙ sym (answers_below-next (text_mapping_at (slots_say c.args.slots.now)) c.loop-n.n);
    }
