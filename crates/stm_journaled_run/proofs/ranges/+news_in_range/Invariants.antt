use Rattle.std.proofs.Common.{length}
use Rattle.stm_journaled_run.proofs.ranges.+news_in_range.Given as goal

abbrev pub decreases-news_in_range : goal.decreases-news_in_range
decreases-news_in_range l = length l.news.now
