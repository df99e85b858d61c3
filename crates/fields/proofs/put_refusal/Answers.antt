use Rattle.fields.proofs.put_refusal.Goals as goal

pub returns : goal.returns
returns c = c.put_field.ensures
