use Rattle.std.proofs.Common.{ℕ, ◌+◌, refl, sym, ap}
use Rattle.tokens.proofs.PushMeans.{counts-more}
use Rattle.tokens.proofs.Build.counted.Goals as goal

pub returns : goal.returns
returns c = λ ts t C i k m. counts-more ts t C _ (sym i) refl m (ap (λ (x : ℕ). c.args.self.used + x) (sym k))
