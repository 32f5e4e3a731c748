use Rattle.std.proofs.Common.{ℕ, ◌<◌, refl, subst}
use lib.Dec.{ltb→lt, nltb→le}
use Rattle.tokens.proofs.PushMeans.{admits_none}
use Rattle.tokens.proofs.is_full.Goals as goal

pub returns : goal.returns
returns c = record {
  full = λ yes table ts t s os bl rs ns st B em ek. admits_none B t
      (subst (λ (x : ℕ). x < st.made) em (subst (λ (x : ℕ). c.args.most < x) ek (ltb→lt c.args.most c.args.made yes))) table;
  goes = λ no. nltb→le c.args.most c.args.made no;
  same = refl;
}
