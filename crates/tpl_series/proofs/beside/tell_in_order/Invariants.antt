use Rattle.tpl_series.proofs.beside.tell_in_order.Given as goal

abbrev pub ghosts-tell_beside : goal.ghosts-tell_beside
ghosts-tell_beside g a = record { fits = λ place value. g.T.Tell.fits a.telling.now place value }
