-- The bytes joined by `|` are 0 exactly if each is.
use Rattle.std.proofs.Common.{rules, ◌≡◌, fold, bit_or}
use Rattle.octets.proofs.Runs.{zero_fold}
use Rattle.octets.proofs.is_zero.Goals as goal

pub returns : goal.returns
returns c =
    let joined : c.fold.result ≡ fold bit_or 0 c.args.s.now = search rules in
    rw joined (zero_fold 0 c.args.s.now)
