use Rattle.std.proofs.Common.{◌≡◌, ap, rules, true}
use Rattle.sd_pagelock.specs.Places.{seen}
use Rattle.sd_pagelock.proofs.Rowwise.{same_seen}
use Rattle.sd_pagelock.proofs.lawful.is_same.Goals as goal

pub returns : goal.returns
returns c =
    let one : c.eq.result ≡ true → c.args.a.now ≡ c.args.b.now = search rules in
    let equal : c.args.a.now ≡ c.args.b.now → c.eq.result ≡ true = search rules in
    (λ t. ap seen (one t), λ e. equal (same_seen c.args.a.now c.args.b.now c.sets_are_bytes.ensures c.sets_are_bytes-2.ensures e))
