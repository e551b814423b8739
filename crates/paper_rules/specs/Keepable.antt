-- A bind whose mode and SAP fit where a stream keeps them: one byte and two.
use Rattle.std.specs.Prelude.{◌<◌, ◌^◌}
use Rattle.paper.specs.declared.BindRequest.{BindRequest}

pub record Keepable (b : BindRequest) : Type 0 where
  pub mode : b.mode < 2 ^ 8
  pub sap : b.sap < 2 ^ 16
