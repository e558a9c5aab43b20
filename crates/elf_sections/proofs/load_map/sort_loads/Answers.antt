use Rattle.std.proofs.Common.{◌≡◌, rules}
use Rattle.std.proofs.lemmas.List.Sorted.{IsNonDecreasingBy-from_sort_by_key}
use Rattle.std.specs.List.Sorted.{IsPermutation}
use Rattle.elf_sections.proofs.LoadMaps.{loads-permutation}
use Rattle.elf_sections.proofs.load_map.sort_loads.Goals as goal

pub returns-clause-order : goal.returns-clause-order
returns-clause-order c =
    let same : c.in_ok-sorted.sorted.items ≡ c.args.loads.now = c.in_ok-sorted.ensures.items in
    let moved : IsPermutation c.args.loads.now c.sort_by_key.new.self.items = rw same at c.sort_by_key.ensures.permutation in
    record {
      are = loads-permutation c.args.loads.now c.sort_by_key.new.self.items moved c.requires;
      order = IsNonDecreasingBy-from_sort_by_key (λ s. s.address) _ c.in_ok-sort_by_key.ensures.sorted (λ a r q k. search rules);
    }
