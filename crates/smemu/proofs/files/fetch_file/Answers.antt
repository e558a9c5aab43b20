use Rattle.smemu.proofs.files.fetch_file.Goals as goal

pub returns-in-Ok-clause-front : goal.returns-in-Ok-clause-front
returns-in-Ok-clause-front g c = rw c.as_str.ensures.value at c.in-Ok.ensures.answer.0
