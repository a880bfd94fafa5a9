use Rattle.std.proofs.Common.{length}
use Rattle.stm_history.proofs.explaining.+fit_news.Given as goal

abbrev pub decreases-fit_news : goal.decreases-fit_news
decreases-fit_news l = length l.news.now
