use Rattle.std.proofs.Common.{◌≡◌, ◌<◌, true, arith, get_or, sym, length}
use Rattle.std.proofs.lemmas.List.{get_or_read}
use Rattle.elf_headers.specs.Loads.{has_address}
use Rattle.elf_sections.proofs.LoadMaps.{all_had-none, all_had-fails, all_had-from, below_end, no_load}
use Rattle.elf_sections.proofs.load_map.LoadMap.has_all.Goals as goal

pub overflow_sub-result : goal.overflow_sub-result
overflow_sub-result c =
    let within : c.in-Some.i < length c.args.self.now.loads.items = rw c.as_slice.ensures.value at c.in-Some.ensures.within in
    let end = get_or_read c.args.self.now.ends.items c.in-Some.i c.index.result.now (omega (arith, c.requires.count)) c.index.ensures 0 in
    let has : has_address (get_or c.args.self.now.loads.items c.in-Some.i no_load) c.args.address ≡ true =
    rw c.as_slice.ensures.value at (c.in-Some.ensures.found no_load) in
    rw end (below_end c.args.self.now.loads.items (get_or c.args.self.now.loads.items c.in-Some.i no_load)
    (get_or c.args.self.now.ends.items c.in-Some.i 0) c.args.address (c.requires.ends c.in-Some.i no_load within) has)

pub returns-then-size-eq0 : goal.returns-then-size-eq0
returns-then-size-eq0 c = rw c.if-size-eq0.true (sym (all_had-none c.args.self.now.loads.items c.args.address))

pub returns-in-Some : goal.returns-in-Some
returns-in-Some c =
    let within : c.in-Some.i < length c.args.self.now.loads.items = rw c.as_slice.ensures.value at c.in-Some.ensures.within in
    let end = get_or_read c.args.self.now.ends.items c.in-Some.i c.index.result.now (omega (arith, c.requires.count)) c.index.ensures 0 in
    let has : has_address (get_or c.args.self.now.loads.items c.in-Some.i no_load) c.args.address ≡ true =
    rw c.as_slice.ensures.value at (c.in-Some.ensures.found no_load) in
    rw end (all_had-from c.args.self.now.loads.items (get_or c.args.self.now.loads.items c.in-Some.i no_load)
    (get_or c.args.self.now.ends.items c.in-Some.i 0) c.args.address c.args.size (c.requires.ends c.in-Some.i no_load within) has)

pub returns-in-None : goal.returns-in-None
returns-in-None c =
    sym (all_had-fails c.args.self.now.loads.items c.args.address c.args.size (omega arith)
    (rw (← c.as_slice.ensures.value) c.in-None.ensures.none))
