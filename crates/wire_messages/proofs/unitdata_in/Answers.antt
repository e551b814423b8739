-- The fields are read where the paper has them, the SAP in the form of the address length, then the size is tested.
use Rattle.wire_messages.proofs.unitdata_in.Goals as goal

pub returns : goal.returns
returns c =
    rw (
      c.of_size.ensures,
      c.sap_at.ensures,
      c.of_length.ensures,
      c.number_at-offset.ensures,
      c.number_at-length.ensures,
    )
