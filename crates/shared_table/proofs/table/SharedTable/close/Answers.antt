use Rattle.std.proofs.Common.{rules, arith, ◌≡◌, ◌∙◌, ap, length, take, drop}
use Rattle.std.specs.Mem.Slots.{slots_items}
use Rattle.shared_table.proofs.Closing.{closes}
use Rattle.shared_table.proofs.Names.{same_table}
use Rattle.shared_table.proofs.table.SharedTable.close.Goals as goal

pub free-requires : goal.free-requires
free-requires c k lt =
    let slots = c.close_with-closed.ensures.counts.1 in let none = c.args.self.counts.1 in absurd (omega arith)

pub returns : goal.returns
returns c =
    let words = slots_items c.close_with-closed.result.words in
    let shared : length c.args.into.now.shared ≡ 512 = search rules in
    let pending : length c.args.into.now.pending ≡ 32 = search rules in
    closes _ _ _ _ _ c.requires.maker c.requires.back c.close_with-closed.ensures.values.2
    (c.copy_words.ensures ∙ ap (λ n. take n words) shared)
    (c.copy_words-2.ensures ∙ ap (λ n. take n (drop 512 words)) pending)

pub close_with-closed-requires : goal.close_with-closed-requires
close_with-closed-requires c = same_table _ _ c.requires.name
