use Rattle.std.proofs.Common.{◌≡◌, ap, ap₂, ◌∙◌, arith, ℕ}
use Rattle.std.specs.Option.{option_map_or}
use Rattle.std.specs.Prelude.{Option, option_copied}
use Rattle.sd_log.specs.Logs.{LogState}
use Rattle.sd_page.specs.Page.{Page}
use Rattle.sd_chain.specs.Pages.{value}
use Rattle.sd_chain.proofs.Slots.{value-at}
use Rattle.sd_chain.specs.Logs.{next_lsn}
use Rattle.sd_update.specs.Changing.{change_of}
use Rattle.sd_state.specs.Complexes.{parts}
use Rattle.sd_update.proofs.changes.prepared.Goals as goal

pub returns-clause-change : goal.returns-clause-change
returns-clause-change g c =
    let k = change_of c.args.t.now c.args.r.now c.args.capacity (option_copied c.args.after) (parts c.args.c.now) in
    let next : next_lsn c.log.result.now c.lsn.result ≡ k.lsn =
    ap₂ (λ (l : LogState) (n : ℕ). next_lsn l n) c.log.ensures (c.lsn.ensures ∙ ap (λ (z : Page). z.lsn) c.requires.image) in
    let left = c.requires.left in
    let cut = c.next_lsn-lsn.ensures in
    let lsn : c.next_lsn-lsn.result ≡ k.lsn = omega (arith, next, left, cut) in
    let before : c.in_ok-owned.field-0 ≡ k.before =
    c.in_ok-owned.ensures ∙ c.value.ensures ∙ value-at c.args.image.now.slots c.args.r.now.slot
    ∙ ap (λ (z : Page). value z.slots c.args.r.now.slot) c.requires.image in
    λ n. record {
      txn = c.args.t.now;
      rid = c.args.r.now;
      lsn = lsn n;
      prev = (c.last_in-prev.ensures ∙ ap (λ (o : Option (ℕ × ℕ)). option_map_or (λ (span : ℕ × ℕ). span.1) o 0) c.requires.span) n;
      capacity = c.args.capacity;
      before = before n;
      after = (option_copied c.args.after);
    }
