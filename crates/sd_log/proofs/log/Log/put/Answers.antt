use Rattle.std.proofs.Common.{◌≡◌, ℕ, ◌+◌, ◌-◌, ◌≤◌, ◌∙◌, ◌/◌, max, List, [], ◌∷◌, ◌++◌, length, refl, sym, ap, arith}
use Rattle.std.proofs.lemmas.List.{length-map}
use Rattle.std.proofs.lemmas.Result.{err_from_is_err_and}
use Rattle.sd_logrec.specs.Kept.{spelled}
use Rattle.sd_logrec.specs.Spelling.{spelling}
use Rattle.sd_logrec.specs.declared.record.Record.{Record}
use Rattle.sd_log.specs.ByPage.{changed_page}
use Rattle.sd_log.specs.LogInside.{log_view}
use Rattle.sd_log.specs.Logs.{LogState, scanned, tail_len, with_record}
use Rattle.sd_log.specs.WrittenStates.{WrittenState}
use Rattle.sd_log.specs.declared.log.Log.TheInside.{Inside}
use Rattle.sd_log.specs.declared.placed.Placed.{Placed}
use Rattle.sd_log.proofs.Counted.{few_records}
use Rattle.sd_log.proofs.Tails.{put_is, widened_log}
use Rattle.sd_log.proofs.log.Log.put.Goals as goal

-- a log with these records, and this much to spare
abbrev seen : Inside → ℕ → WrittenState → LogState
seen l spare w = record { inst = l.inst; start = w.start; gate = w.gate; groups = w.groups; tail = w.tail; spare = spare }

pub push-requires-clause-few : goal.push-requires-clause-few
push-requires-clause-few c =
    let l = c.self.inside in
    let few = few_records l c.self.invariant in
    let size = length-map (scanned (log_view l)) (λ (p : Placed). changed_page p.rec) in
    omega (arith, few, ap length c.reserve-3.ensures.chains, ap length c.self.invariant.chains_are, size)

pub invariant_of-self : goal.invariant_of-self
invariant_of-self c =
    widened_log c.self.inside c.self.inside.written c.self.inside.pages c.reserve.new.self c.self.invariant
    record {
      same = refl;
      chains_is = refl;
      text_room = omega arith;
      record_room = omega arith;
      page_room = omega arith;
      buffer_room = c.reserve.ensures.stays;
    }

pub returns-in_err-reserve-clause-stays : goal.returns-in_err-reserve-clause-stays
returns-in_err-reserve-clause-stays c =
    let is = err_from_is_err_and c.from_residual.result c.from_residual.ensures.1 in
    rw is.1 c.self.view_is

pub invariant_of-self-2 : goal.invariant_of-self-2
invariant_of-self-2 c =
    let l = c.self.inside in
    let r : Record = c.args.r.now in
    let w = c.push-2.new.self in
    let put_one = c.push-2.ensures.record in
    let same = c.reserve-2.ensures.same in
    let room = c.requires.room in
    let len = c.requires.len in
    let view : tail_len c.args.self.now ≡ length (spelled l.written.tail) = ap (λ (s : LogState). length (spelled s.tail)) (sym c.self.view_is) in
    let gate : c.args.self.now.gate ≡ l.written.gate = ap (λ (s : LogState). s.gate) (sym c.self.view_is) in
    let tail : length c.tail-tail.result.now ≡ length (spelled l.written.tail) = ap length c.tail-tail.ensures in
    let kept : w.room ≡ c.reserve-2.new.self.room - 1 = ap (λ (s : WrittenState). s.room) put_one in
    let all : c.max.result ≡ max c.args.len 26 = c.max.ensures in
    let bytes : length c.tail-tail.result.now + (c.max.result + c.args.kept) ≤ c.reserve.new.self.room = c.in_ok-reserve.ensures.ok in
    let more = c.in_ok-reserve-2.ensures.ok in
    let text : c.max.result + c.args.kept ≤ c.reserve-2.new.self.text = more.0 in
    let records : (c.max.result + c.args.kept) / 26 ≤ c.reserve-2.new.self.room = more.1 in
    let pages : (c.max.result + c.args.kept) / 26 ≤ c.reserve-3.new.self.room = c.in_ok-reserve-3.ensures.ok in
    let left : c.reserve-2.new.self.text ≤ w.text + length (spelling r) = c.push-2.ensures.text in
    put_is l r c.args.kept w c.push.new.self c.reserve.new.self c.self.invariant record {
      start_is = ap (λ (s : WrittenState). s.start) put_one ∙ ap (λ (s : WrittenState). s.start) same;
      gate_is = ap (λ (s : WrittenState). s.gate) put_one ∙ ap (λ (s : WrittenState). s.gate) same;
      groups_is = ap (λ (s : WrittenState). s.groups) put_one ∙ ap (λ (s : WrittenState). s.groups) same;
      tail_is = ap (λ (s : WrittenState). s.tail) put_one ∙ ap (λ (s : WrittenState). s.tail ++ r ∷ []) same;
      fits_record = c.requires.fits;
      within = omega arith;
      kept_small = c.requires.kept;
      kept_text = omega arith;
      kept_buffer = omega arith;
      kept_records = omega arith;
      kept_pages = omega (arith, pages, c.push.ensures.room);
      chains_is = c.push.ensures.chains ∙ ap (λ (ns : List ℕ). ns ++ changed_page r ∷ []) c.reserve-3.ensures.chains;
    }

pub returns-clause-ok : goal.returns-clause-ok
returns-clause-ok c =
    let l = c.self.inside in
    let r : Record = c.args.r.now in
    ap (seen l c.args.kept) c.push-2.ensures.record
    ∙ ap (λ (w : WrittenState). with_record r c.args.kept (seen l l.spare w)) c.reserve-2.ensures.same
    ∙ ap (with_record r c.args.kept) c.self.view_is
