-- What the productions of expressions say of a next token.
use Rattle.rn_inscript.proofs.Names.{◌≡◌, ◌⊎◌, inl, inr, List, [], ◌∷◌, ◌++◌, refl, ap, pos, Some, ⊤, Token, Number, OpKind, PExpr, plus_of, times_of, IsExpr, IsTerms, IsProduct, IsFactors, IsUnary, IsPrimary, IsExprs, IsMoreExprs, joined, Then, CanEnd, strength}
use Rattle.rn_inscript.proofs.CountSteps.{times-strength, plus-strength}
use Rattle.rn_inscript.proofs.Chains.{Joined}
use Rattle.rn_inscript.proofs.BracketSteps.{any}
use Rattle.rn_inscript.proofs.OneSign.{sign_of, sign-is, sign-some}

-- `0` is a whole phrase of each sort
pub zero-primary : CanEnd IsPrimary
zero-primary = (any (Number (pos 0)) ∷ [], _, λ rest. IsPrimary.number refl)

pub zero-unary : CanEnd IsUnary
zero-unary = (zero-primary.0, zero-primary.1, λ rest. IsUnary.primary (zero-primary.2 rest))

pub zero-product : CanEnd IsProduct
zero-product = (zero-unary.0, zero-unary.1, λ rest. IsProduct.product (zero-unary.2 rest) IsFactors.no_more_factors)

pub zero-expr : CanEnd IsExpr
zero-expr = (zero-product.0, zero-product.1, λ rest. IsExpr.sum (zero-product.2 rest) IsTerms.no_more_terms)

pub products : Joined 5 IsProduct IsUnary times_of joined IsFactors (λ a. a)
products = record {
  chain = record {
    nothing = λ a ts. IsFactors.no_more_factors;
    on = λ is item more. IsFactors.more_factors is item more;
    split = elim [ IsFactors.no_more_factors ↦ inl (refl, refl) | IsFactors.more_factors is item more ↦ inr (_, _, _, refl, is, (_, _, item, more)) ];
    binds = times-strength;
  };
  join = λ item more. IsProduct.product item more;
  part = elim [ IsProduct.product item more ↦ (_, _, item, more) ];
  item = zero-unary;
}

pub sums : Joined 4 IsExpr IsProduct plus_of joined IsTerms (λ a. a)
sums = record {
  chain = record {
    nothing = λ a ts. IsTerms.no_more_terms;
    on = λ is item more. IsTerms.more_terms is item more;
    split = elim [ IsTerms.no_more_terms ↦ inl (refl, refl) | IsTerms.more_terms is item more ↦ inr (_, _, _, refl, is, (_, _, item, more)) ];
    binds = plus-strength;
  };
  join = λ item more. IsExpr.sum item more;
  part = elim [ IsExpr.sum item more ↦ (_, _, item, more) ];
  item = zero-product;
}

pub lists : Joined 3 IsExprs IsExpr (sign_of 6) (λ sign all e. all ++ e ∷ []) IsMoreExprs (λ e. e ∷ [])
lists = record {
  chain = record {
    nothing = λ all ts. IsMoreExprs.no_more_exprs;
    on = λ {t = t} is item more. IsMoreExprs.more_exprs (sign-is 6 t.kind tt is) item more;
    split = elim [ IsMoreExprs.no_more_exprs ↦ inl (refl, refl) | IsMoreExprs.more_exprs is item more ↦ inr (_, _, tt, refl, sign-some 6 _ is, (_, _, item, more)) ];
    binds = λ kind sign is. ap strength (sign-is 6 kind sign is);
  };
  join = λ item more. IsExprs.exprs item more;
  part = elim [ IsExprs.exprs item more ↦ (_, _, item, more) ];
  item = zero-expr;
}
