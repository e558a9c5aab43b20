use Rattle.smemu.proofs.refusal.write_unread.Goals as goal

pub returns-in-Failed : goal.returns-in-Failed
returns-in-Failed g c = rw (c.in-Failed.is, ← c.as_bytes-in-Failed.ensures.value) c.write_parts-in-Failed.ensures
