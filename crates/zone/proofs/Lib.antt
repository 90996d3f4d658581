pub mod EachTrain
pub mod Numbers
