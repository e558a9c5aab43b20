use Rattle.std.proofs.Common.{◌∙◌}
use Rattle.elf_sections.proofs.Loaded.{is_all_loaded-by}
use Rattle.elf_sections.proofs.checks.is_loaded.Goals as goal

pub returns : goal.returns
returns c = c.has_all.ensures ∙ is_all_loaded-by c.args.file.now c.args.load_map.now.loads.items c.args.s.now c.requires.same
