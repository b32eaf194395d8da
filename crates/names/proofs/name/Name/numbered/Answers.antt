use Rattle.std.proofs.Common.{◌≡◌, ℕ, List, [], ◌∷◌, ◌++◌, length, decimal, ap, ◌∙◌, arith}
use Rattle.std.proofs.lemmas.List.{append_assoc}
use Rattle.std.proofs.lemmas.Fmt.{length-decimal-le}
use Rattle.names.specs.Spelt.{spelt}
use Rattle.names.proofs.Apart.{is_form}
use Rattle.names.proofs.Padding.{length_spelt}
use Rattle.names.proofs.name.Name.numbered.Goals as goal

joined : (a p q d : List ℕ) → p ≡ a ++ 36 ∷ [] → q ≡ p ++ d → q ≡ a ++ 36 ∷ d
joined a p q d e g = g ∙ rw (e, append_assoc)

pub append-requires-2 : goal.append-requires-2
append-requires-2 c =
    omega (arith, length_spelt c.args.self.now, ap length (c.as_bytes.ensures.value ∙ c.format.ensures.text), length-decimal-le 4 c.args.k (omega arith) (omega arith) (omega arith))

pub returns : goal.returns
returns c =
    let n = length_spelt c.args.self.now in
    let text : c.as_bytes.result.now ≡ decimal c.args.k = c.as_bytes.ensures.value ∙ c.format.ensures.text in (
      omega arith,
      (omega arith, omega arith),
      is_form (spelt c.args.self.now) c.args.k _ (omega arith) (joined (spelt c.args.self.now) (spelt c.append.new.self) _ (decimal c.args.k) c.append.ensures.spells (c.append-2.ensures.spells ∙ ap (λ d. spelt c.append.new.self ++ d) text)),
    )
