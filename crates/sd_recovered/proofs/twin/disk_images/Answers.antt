use Rattle.std.proofs.Common.{◌≡◌, ◌∙◌, ℕ, [], ◌∷◌, Option, inr, ap, refl, subst, arith, length, length-append, below_more}
use Rattle.std.specs.Prelude.{IfSome}
use Rattle.std.proofs.lemmas.Result.{err_from_is_err_and}
use Rattle.sd_chain.specs.Bytes.{disk_page}
use Rattle.sd_chain.specs.Checks.{TwinIsSound}
use Rattle.sd_recovered.proofs.Lists.{values_push}
use Rattle.sd_recovered.proofs.twin.disk_images.Goals as goal

pub returns-in_err-image-clause-refusals : goal.returns-in_err-image-clause-refusals
returns-in_err-image-clause-refusals c =
    let p = err_from_is_err_and c.from_residual-in_err-image.result c.from_residual-in_err-image.ensures.1 in
    let bad = c.in_err-image.ensures.refusals in
    let number : c.unwrap.result ≡ c.loop-p.p = subst
    (λ (o : Option ℕ). IfSome o (λ i. i ≡ c.loop-p.p)) c.unwrap.ensures c.new.ensures.value in
    rw (p.1, p.2) (inr (
      bad.0,
      bad.1,
      record {
        data_device = refl;
        page = c.unwrap.result;
        few = omega arith;
        before = λ q lt. c.loop-p.invariant.sound q (omega arith);
        here = bad.2;
      },
    ))

pub loop-p-preserved : goal.loop-p-preserved
loop-p-preserved c =
    let number : c.unwrap.result ≡ c.loop-p.p = subst
    (λ (o : Option ℕ). IfSome o (λ i. i ≡ c.loop-p.p)) c.unwrap.ensures c.new.ensures.value in
    let keeps = c.loop-p.invariant in record {
      count = omega (
        arith,
        keeps.count,
        ap length c.in_ok-push.ensures.items,
        length-append c.loop-p.pages.items
            (c.in_ok-image.image ∷ []),
      );
      images = values_push (disk_page c.args.bytes.now) c.loop-p.pages.items c.push.new.self.items c.loop-p.p c.in_ok-image.image
          keeps.count keeps.images (c.in_ok-image.ensures.image ∙ ap (disk_page c.args.bytes.now) number) c.in_ok-push.ensures.items;
      sound = below_more (λ n. TwinIsSound n c.args.bytes.now) c.loop-p.p keeps.sound
          (subst (λ n. TwinIsSound n c.args.bytes.now) number c.in_ok-image.ensures.sound);
    }
