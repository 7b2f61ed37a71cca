-- `==` of rows decides whether they are the same.
use Rattle.std.proofs.Common.{◌≡◌, true, refl, rules}
use Rattle.dd_rules.specs.contracts.row.RowPartialEq.TheImpl as row_eq
use Rattle.dd_rules.specs.declared.row.Row.{Row}
use Rattle.dd_rules.specs.declared.row.Row.TheVariants as row

pub eq_true : (a b : Row) → row_eq.eq-value.it a b ≡ true → a ≡ b
eq_true row.Top row.Top h = refl
eq_true row.Top row.Bottom h = cc
eq_true row.Top (row.Name b) h = cc
eq_true row.Top (row.Not b) h = cc
eq_true row.Top (row.And b d) h = cc
eq_true row.Top (row.Or b d) h = cc
eq_true row.Top (row.HasSome b d) h = cc
eq_true row.Top (row.HasAll b d) h = cc
eq_true row.Bottom row.Top h = cc
eq_true row.Bottom row.Bottom h = refl
eq_true row.Bottom (row.Name b) h = cc
eq_true row.Bottom (row.Not b) h = cc
eq_true row.Bottom (row.And b d) h = cc
eq_true row.Bottom (row.Or b d) h = cc
eq_true row.Bottom (row.HasSome b d) h = cc
eq_true row.Bottom (row.HasAll b d) h = cc
eq_true (row.Name a) row.Top h = cc
eq_true (row.Name a) row.Bottom h = cc
eq_true (row.Name a) (row.Name b) h = search rules
eq_true (row.Name a) (row.Not b) h = cc
eq_true (row.Name a) (row.And b d) h = cc
eq_true (row.Name a) (row.Or b d) h = cc
eq_true (row.Name a) (row.HasSome b d) h = cc
eq_true (row.Name a) (row.HasAll b d) h = cc
eq_true (row.Not a) row.Top h = cc
eq_true (row.Not a) row.Bottom h = cc
eq_true (row.Not a) (row.Name b) h = cc
eq_true (row.Not a) (row.Not b) h = search rules
eq_true (row.Not a) (row.And b d) h = cc
eq_true (row.Not a) (row.Or b d) h = cc
eq_true (row.Not a) (row.HasSome b d) h = cc
eq_true (row.Not a) (row.HasAll b d) h = cc
eq_true (row.And a c) row.Top h = cc
eq_true (row.And a c) row.Bottom h = cc
eq_true (row.And a c) (row.Name b) h = cc
eq_true (row.And a c) (row.Not b) h = cc
eq_true (row.And a c) (row.And b d) h = search rules
eq_true (row.And a c) (row.Or b d) h = cc
eq_true (row.And a c) (row.HasSome b d) h = cc
eq_true (row.And a c) (row.HasAll b d) h = cc
eq_true (row.Or a c) row.Top h = cc
eq_true (row.Or a c) row.Bottom h = cc
eq_true (row.Or a c) (row.Name b) h = cc
eq_true (row.Or a c) (row.Not b) h = cc
eq_true (row.Or a c) (row.And b d) h = cc
eq_true (row.Or a c) (row.Or b d) h = search rules
eq_true (row.Or a c) (row.HasSome b d) h = cc
eq_true (row.Or a c) (row.HasAll b d) h = cc
eq_true (row.HasSome a c) row.Top h = cc
eq_true (row.HasSome a c) row.Bottom h = cc
eq_true (row.HasSome a c) (row.Name b) h = cc
eq_true (row.HasSome a c) (row.Not b) h = cc
eq_true (row.HasSome a c) (row.And b d) h = cc
eq_true (row.HasSome a c) (row.Or b d) h = cc
eq_true (row.HasSome a c) (row.HasSome b d) h = search rules
eq_true (row.HasSome a c) (row.HasAll b d) h = cc
eq_true (row.HasAll a c) row.Top h = cc
eq_true (row.HasAll a c) row.Bottom h = cc
eq_true (row.HasAll a c) (row.Name b) h = cc
eq_true (row.HasAll a c) (row.Not b) h = cc
eq_true (row.HasAll a c) (row.And b d) h = cc
eq_true (row.HasAll a c) (row.Or b d) h = cc
eq_true (row.HasAll a c) (row.HasSome b d) h = cc
eq_true (row.HasAll a c) (row.HasAll b d) h = search rules

pub eq_same : (a : Row) → row_eq.eq-value.it a a ≡ true
eq_same row.Top = search rules
eq_same row.Bottom = search rules
eq_same (row.Name a) = search rules
eq_same (row.Not a) = search rules
eq_same (row.And a b) = search rules
eq_same (row.Or a b) = search rules
eq_same (row.HasSome a b) = search rules
eq_same (row.HasAll a b) = search rules
