-- `Trailer::fields` meets its contract.
use Rattle.std.proofs.Common.{◌∙◌}
use Rattle.packet.proofs.Stores.{fields_are}
use Rattle.packet.proofs.Trailer.fields.Goals as goal

pub returns : goal.returns
returns c = fields_are _ _ c.place-at.ensures _ _ _ (c.from.ensures ∙ c.two.ensures) (c.from-2.ensures ∙ c.two-2.ensures) c.two-3.ensures
