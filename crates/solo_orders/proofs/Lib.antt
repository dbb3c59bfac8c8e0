mod FeedLemmas
