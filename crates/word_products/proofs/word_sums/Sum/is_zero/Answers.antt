use Rattle.word_products.proofs.word_sums.Sum.is_zero.Goals as goal

pub returns : goal.returns
returns c = rw (← c.self.view_is) c.is_zero.ensures
