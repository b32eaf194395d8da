use Rattle.std.proofs.Common.{◌≡◌, Decides, sym, ap, ◌∙◌, subst}
use Rattle.std.specs.Str.{bytes_eq}
use Rattle.names.specs.Spelt.{spelt}
use Rattle.names.proofs.Padding.{name_decides}
use Rattle.names.proofs.name.order.NamePartialEq.eq.Goals as goal

pub returns : goal.returns
returns c =
    let x = c.args.self.now in
    let y = c.args.other.now in
    let e : c.is.result ≡ bytes_eq (spelt x) (spelt y) = c.is.ensures ∙ ap (bytes_eq (spelt x)) c.as_bytes.ensures in
    (subst (λ r. Decides r (x ≡ y)) (sym e) (name_decides x y), e)
